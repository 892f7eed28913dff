-- What a removal promises (document 02, No. 8): whether the task stood in the queue, at which position, and that the others keep their former order.
use Rattle.std.specs.Prelude.{◌≡◌, refl, Bool, true, false, ℕ, suc, ◌+◌, ◌≤◌, ◌<◌, eqb, ltb, length, take, drop, None, Some}
use Rattle.std.proofs.Common.{sym, subst, ◌∙◌, add-one, length-append, drop_of_length-le, take_at}
use Rattle.std.proofs.Math.Path.{ap}
use mathlib.Core.List.{List, [], ◌∷◌, ◌++◌, append-nil}
use native.Mathlib.Omega.{arith}
use borrow.Author.Tests.{eq-eqb, eqb-true, ltb-true, ltb-false, lt-ltb, le-ltb}
use Rattle.asyncio.specs.States.{pick}
use Rattle.asyncio.specs.Limits.{task_limit}
use Rattle.queue.specs.declared.ReadyQueue.{ReadyQueue}
use Rattle.queue.specs.Queue.{Position}
use Rattle.queue.specs.Queue.{entries, push_back, drop_entry, drop_place, find_task, remove, position_from, stood_at, removed_count, position, retain, occurrences, Distinct}
use Rattle.queue.proofs.QueueLaws.{find_task-position, length-entries, entries-drop_place, entries_push, drop_place_either, push_back-len, push_back-length, absent-head, position_absent, remove_absent, retain-absent, occurrences_append, at_most_once}
use Rattle.queue.specs.RemovalLaws.{Removal}

-- ---- the first t in a list

-- there is one, and none before it
first_of-list : (l : List ℕ) (t : ℕ) → position l t < length l → (l ≡ take (position l t) l ++ (t ∷ drop (suc (position l t)) l)) × (occurrences (take (position l t) l) t ≡ 0)
unfolding position occurrences
first_of-list [] t h = absurd (omega arith)
first_of-list (x ∷ xs) t h = by (eqb x t) refl h (first_of-list xs t)
  where
    by : (b : Bool) → eqb x t ≡ b → pick b 0 (suc (position xs t)) < suc (length xs)
        → (position xs t < length xs → (xs ≡ take (position xs t) xs ++ (t ∷ drop (suc (position xs t)) xs)) × (occurrences (take (position xs t) xs) t ≡ 0))
        → (x ∷ xs ≡ take (pick b 0 (suc (position xs t))) (x ∷ xs) ++ (t ∷ drop (suc (pick b 0 (suc (position xs t)))) (x ∷ xs)))
        × (occurrences (take (pick b 0 (suc (position xs t))) (x ∷ xs)) t ≡ 0)
    by true e g f = (ap (λ (y : ℕ). y ∷ xs) (eqb-true x t e), refl)
    by false e g f = let r = f (omega arith) in (ap (λ (l : List ℕ). x ∷ l) r.0, rw (e, r.1))

-- there is none
not_in_list : (l : List ℕ) (t : ℕ) → length l ≤ position l t → occurrences l t ≡ 0
unfolding position occurrences
not_in_list [] t h = refl
not_in_list (x ∷ xs) t h = by (eqb x t) h (not_in_list xs t)
  where
    by : (b : Bool) → suc (length xs) ≤ pick b 0 (suc (position xs t)) → (length xs ≤ position xs t → occurrences xs t ≡ 0) → pick b 1 0 + occurrences xs t ≡ 0
    by true g f = absurd (omega arith)
    by false g f = omega (arith, f (omega arith))

-- it is the one put behind a list without it
position_pushed : (l : List ℕ) (t : ℕ) → occurrences l t ≡ 0 → position (l ++ (t ∷ [])) t ≡ length l
unfolding position
position_pushed [] t h = rw (eq-eqb t t refl)
position_pushed (x ∷ xs) t h = let a = absent-head x xs t h in rw (a.0, position_pushed xs t a.1)

-- ---- the promise

-- of every queue whose count is within its places: the position that `remove` tells, and what it leaves
pub removal : (q : ReadyQueue) (t : ℕ) → length q.ids ≡ task_limit → q.len ≤ task_limit → Removal t (entries q) (stood_at q t) (entries (remove q t))
unfolding stood_at position_from remove Removal
removal q t l h = rw (le-ltb task_limit q.len h) (by (ltb at q.len) refl)
  where
    at : ℕ
    at = find_task q t

    first : at ≡ position (entries q) t
    first = find_task-position q t l h

    left : entries (drop_place q at) ≡ take at (entries q) ++ drop (at + 1) (entries q)
    left = entries-drop_place q at l h

    by : (b : Bool) → ltb at q.len ≡ b → Removal t (entries q) (pick b (Some at) None) (entries (drop_place q at))
    by true e =
        let there : position (entries q) t < length (entries q) = rw (← first, length-entries q l h) (ltb-true at q.len e) in
        let f = first_of-list (entries q) t there in
        (subst (λ (i : ℕ). entries q ≡ take i (entries q) ++ (t ∷ drop (i + 1) (entries q))) (sym first) (rw (add-one (position (entries q) t)) f.0), rw first f.1, left)
    by false e =
        let none : length (entries q) ≤ position (entries q) t = rw (← first, length-entries q l h) (ltb-false at q.len e) in
        (not_in_list (entries q) t none, drop_place_either (λ r. entries r ≡ entries q) q at (λ inside within. absurd (omega (arith, ltb-false at q.len e))) (λ behind. refl) (λ over. refl))

-- it stood at i
pub removed-at : (q : ReadyQueue) (t i : ℕ) → length q.ids ≡ task_limit → q.len ≤ task_limit → stood_at q t ≡ Some i
    → (entries q ≡ take i (entries q) ++ (t ∷ drop (i + 1) (entries q))) × (occurrences (take i (entries q)) t ≡ 0) × (entries (remove q t) ≡ take i (entries q) ++ drop (i + 1) (entries q))
removed-at q t i l h e = unfold Removal in (subst (λ (p : Position). Removal t (entries q) p (entries (remove q t))) e (removal q t l h))

-- it stood nowhere: every place of the queue stays, the unused ones too
pub removed-none : (q : ReadyQueue) (t : ℕ) → length q.ids ≡ task_limit → q.len ≤ task_limit → stood_at q t ≡ None → (occurrences (entries q) t ≡ 0) × (remove q t ≡ q)
removed-none q t l h e =
    let absent : occurrences (entries q) t ≡ 0 = unfold Removal in (subst (λ (p : Position). Removal t (entries q) p (entries (remove q t))) e (removal q t l h)).0 in
    (absent, remove_absent q t l absent)

-- The count falls by one where the task stood in the queue, and stays where it did not: of every queue, one that is none too.
pub removed-length : (q : ReadyQueue) (t : ℕ) → q.len ≡ (remove q t).len + removed_count (stood_at q t)
unfolding remove drop_place drop_entry stood_at position_from removed_count
removed-length q t = by (ltb task_limit q.len) (ltb at q.len) refl
  where
    at : ℕ
    at = find_task q t

    by : (a b : Bool) → ltb at q.len ≡ b
        → q.len ≡ (pick a q (pick b (drop_entry q at) q)).len + removed_count (pick a None (pick b (Some at) None))
    by true b e = omega arith
    by false true e = omega (arith, ltb-true at q.len e)
    by false false e = omega arith

-- ---- what follows from the promise alone, where no number stands twice: to take out the first is to take out every one (retain of scheduler.rs)

-- before and behind it
retain_around : (a : List ℕ) (t : ℕ) (b : List ℕ) → retain (a ++ (t ∷ b)) t ≡ retain a t ++ retain b t
unfolding retain
retain_around [] t b = rw (eq-eqb t t refl)
retain_around (x ∷ a) t b = by (eqb x t) (retain_around a t b)
  where
    by : (c : Bool) → retain (a ++ (t ∷ b)) t ≡ retain a t ++ retain b t
        → pick c (retain (a ++ (t ∷ b)) t) (x ∷ retain (a ++ (t ∷ b)) t) ≡ pick c (retain a t) (x ∷ retain a t) ++ retain b t
    by true h = h
    by false h = ap (λ (l : List ℕ). x ∷ l) h

pub removal_retains : (t : ℕ) (l : List ℕ) (p : Position) (r : List ℕ) → Distinct l → Removal t l p r → r ≡ retain l t
unfolding Removal
removal_retains t l (Some i) r d k =
    let a = take i l in
    let b = drop (i + 1) l in
    let n : occurrences (a ++ (t ∷ b)) t ≤ 1 = subst (λ (m : List ℕ). occurrences m t ≤ 1) k.0 (at_most_once l d t) in
    let m : occurrences (a ++ (t ∷ b)) t ≡ occurrences a t + occurrences (t ∷ b) t = occurrences_append a (t ∷ b) t in
    let one : occurrences (t ∷ b) t ≡ 1 + occurrences b t = unfold occurrences in (rw (eq-eqb t t refl)) in
    let behind : occurrences b t ≡ 0 = omega (arith, n, m, one) in
    let around : retain (a ++ (t ∷ b)) t ≡ a ++ b = retain_around a t b ∙ rw (retain-absent a t k.1, retain-absent b t behind) in
    k.2 ∙ (sym around ∙ ap (λ (m : List ℕ). retain m t) (sym k.0))
removal_retains t l None r d k = k.1 ∙ sym (retain-absent l t k.0)

-- ---- two removals of a task's end

-- a task that is not queued stands nowhere
pub absent_nowhere : (q : ReadyQueue) (t : ℕ) → length q.ids ≡ task_limit → q.len ≤ task_limit → occurrences (entries q) t ≡ 0 → stood_at q t ≡ None
unfolding stood_at position_from
absent_nowhere q t l h a =
    let end : q.len ≤ find_task q t = rw (find_task-position q t l h, position_absent (entries q) t a, length-entries q l h) (omega arith) in
    rw (le-ltb task_limit q.len h, le-ltb (find_task q t) q.len end)

-- a task that was put at the back stands there
pub pushed_last : (q : ReadyQueue) (t : ℕ) → length q.ids ≡ task_limit → q.len < task_limit → occurrences (entries q) t ≡ 0 → stood_at (push_back q t) t ≡ Some q.len
unfolding stood_at position_from
pushed_last q t l h a =
    let r = push_back q t in
    let more : r.len ≡ q.len + 1 = unfold push_back in (rw (lt-ltb q.len task_limit h)) in
    let room : r.len ≤ task_limit = omega arith in
    let last : find_task r t ≡ q.len =
    find_task-position r t (push_back-length q t ∙ l) room ∙ rw (entries_push q t l h) (position_pushed (entries q) t a ∙ length-entries q l (omega arith)) in
    let inside : q.len < r.len = omega arith in
    rw (le-ltb task_limit r.len room, last, lt-ltb q.len r.len inside)

-- and where it is taken out again, the queue has the entries that it had
pub pushed_removed : (q : ReadyQueue) (t : ℕ) → length q.ids ≡ task_limit → q.len < task_limit → occurrences (entries q) t ≡ 0 → entries (remove (push_back q t) t) ≡ entries q
pushed_removed q t l h a =
    let e = entries q in
    let n : length e ≡ q.len = length-entries q l (omega arith) in
    let m : length (e ++ (t ∷ [])) ≤ q.len + 1 = rw (length-append e (t ∷ []), n) (omega arith) in
    let front : take q.len (e ++ (t ∷ [])) ≡ e = take_at e (t ∷ []) q.len n in
    let behind : drop (q.len + 1) (e ++ (t ∷ [])) ≡ [] = drop_of_length-le (e ++ (t ∷ [])) {i = q.len + 1} m in
    (removed-at (push_back q t) t q.len (push_back-length q t ∙ l) (push_back-len q t (omega arith)) (pushed_last q t l h a)).2
    ∙ rw (entries_push q t l h, front, behind, append-nil)
