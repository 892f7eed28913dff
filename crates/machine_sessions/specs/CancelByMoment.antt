-- Cancel's walk looks the tasks of coroutines up in the store in which it began; a walk that looks each one up at its moment leaves the same store.
use Rattle.std.specs.Prelude.{◌≡◌, Bool, ◌&&◌, get_or, replicate}
use Rattle.std.proofs.Math.Path.{refl, ap, subst}
use Rattle.std.proofs.Common.{sym, ◌∙◌, true≢false, arith, ne_eqb}
use Rattle.std.proofs.Math.Bool.{true, false, not}
use mathlib.Core.List.{List, [], ◌∷◌}
use Rattle.std.proofs.Math.Option.{Option, none, some}
use Prim.Native.Nat.{ℕ, zero, suc, ◌+◌, ◌-◌, ◌≤◌, ◌<◌}
use Rattle.std.proofs.Math.Decide.{ℕ_discrete}
use Rattle.std.proofs.Math.Dec.{T}
use Rattle.asyncio.specs.declared.Task.{Task}
use Rattle.asyncio.specs.declared.Header.{Header}
use Rattle.asyncio.specs.Limits.{task_limit, object_limit}
use Rattle.asyncio.specs.States.{pick, is_live}
use Rattle.rows.specs.Tables.{task_at}
use Rattle.machine.specs.Store.{Store, view, task, object, place, header, put_task, put_queue, add_log, absent, removed, forget}
use Rattle.machine.specs.Scheduler.{AwaitedGather, as_awaited, is_some, blocked_on, bit, first_from, is_task_of, task_of_in, task_of, remove_task, remove_from_ready_queue, cancel_one}
use Rattle.machine.specs.Scheduler.{Walk, reach_if, reach, remove_blocked, still_live, visit_by, visit, visit_place, visit_open, walk_gather, walk_next, walk, walk_from, cancel_task}
use Rattle.machine.specs.Machine.{Event, Answer, refusal, accept, step, answer_cancel}
use Rattle.machine.specs.Sound.{sound, is_task_of_at}
use Rattle.machine_laws.specs.Views.{Sized}
use Rattle.machine_laws.specs.TestLaws.{holds, both}
use Rattle.machine_laws.specs.StoreLaws.{header-fits, live-put_task, task_put-other, sized-put_task, sized-put_queue, sized-add_log, sized-forget}
use Rattle.machine_laws.specs.MachineLaws.{accepted-step}
use Rattle.machine_laws.specs.SoundLaws.{sound_facts, sound-forget, refusal-sound}
use Rattle.machine_theorems.specs.Soundness.Stores.{SoundStore}

-- ---- the walk that looks tasks up at each moment; `reach`, `remove_blocked` and `visit_by` are cancel's own, and nothing reads `tasks_of`

-- an item: its task is the one that it has now
unfoldable pub visit_now : Walk → ℕ → Walk
visit_now w o = visit_by w o (task_of w.store o)

-- the item of place p, which is place i of its gather, if it is one of the open places
unfoldable pub visit_place_now : Walk → ℕ → ℕ → ℕ → Walk
visit_place_now w p i open_places = pick (bit open_places i) (visit_now w (place w.store p).item.0) w

-- the items of the open places from i on, k of them
unfoldable pub visit_open_now : Walk → AwaitedGather → ℕ → ℕ → Walk
visit_open_now w a i zero = w
visit_open_now w a i (suc k) = visit_open_now (visit_place_now w (a.first + i) i a.open_places) a (i + 1) k

-- the open items of a gather are visited
unfoldable pub walk_gather_now : Walk → Option AwaitedGather → Walk
walk_gather_now w none = w
walk_gather_now w (some a) = visit_open_now w a 0 a.count

-- one turn: the gather on top of the stack is walked, then `go` on
unfoldable pub walk_next_now : (Walk → Store) → Walk → List ℕ → Store
walk_next_now go w [] = w.store
walk_next_now go w (g ∷ gs) =
    go (walk_gather_now (record { store = w.store; tasks_of = w.tasks_of; marks = w.marks; stack = gs }) (as_awaited (object w.store g)))

-- with cancel's fuel
unfoldable pub walk_now : ℕ → Walk → Store
walk_now zero w = w.store
walk_now (suc k) w = walk_next_now (λ x. walk_now k x) w w.stack

-- a walk that has reached nothing, and knows no task
unfoldable pub walk_from_now : Store → Walk
walk_from_now s = record { store = s; tasks_of = λ o. none; marks = replicate object_limit false; stack = [] }

-- task t goes, and the walk begins at what it is blocked on
unfoldable pub cancel_task_now : Store → ℕ → Store
cancel_task_now s t = walk_now object_limit (remove_blocked (walk_from_now s) t (blocked_on (task s t).state))

-- ---- a search in which some answers have become false

-- nothing passes
none_first : (q : ℕ → Bool) (k i : ℕ) → ((j : ℕ) → i ≤ j → j < i + k → q j ≡ false) → first_from q i k ≡ none
unfolding first_from
none_first q zero i f = refl
none_first q (suc k) i f = rw (f i (omega arith) (omega arith)) (none_first q k (i + 1) (λ j l m. f j (omega arith) (omega arith)))

-- p passes one number at most, and q passes it if that task still lives, and no other
module _ (p q : ℕ → Bool) (ts : List ℕ) where
  still-first : (k i : ℕ) → ((j : ℕ) → i ≤ j → j < i + k → p j ≡ true → q j ≡ is_live (task_at ts j).state) → ((j : ℕ) → i ≤ j → j < i + k → p j ≡ false → q j ≡ false)
      → ((j l : ℕ) → i ≤ j → j < i + k → i ≤ l → l < i + k → p j ≡ true → p l ≡ true → j ≡ l) → first_from q i k ≡ still_live ts (first_from p i k)
  unfolding first_from still_live
  still-first zero i same less one = refl
  still-first (suc k) i same less one =
      by (p i) refl (still-first k (i + 1) (λ j l m. same j (omega arith) (omega arith)) (λ j l m. less j (omega arith) (omega arith))
      (λ j l a b c d. one j l (omega arith) (omega arith) (omega arith) (omega arith)))
    where
      -- p passes i, so q passes nothing behind it
      behind : p i ≡ true → (j : ℕ) → i + 1 ≤ j → j < i + 1 + k → (b : Bool) → p j ≡ b → q j ≡ false
      behind e j l m true f = let z : i ≡ j = one i j (omega arith) (omega arith) (omega arith) (omega arith) e f in absurd (omega arith)
      behind e j l m false f = less j (omega arith) (omega arith) f

      here : p i ≡ true → (b : Bool) → q i ≡ b → pick b (some i) (first_from q (i + 1) k) ≡ pick b (some i) none
      here e true f = refl
      here e false f = none_first q k (i + 1) (λ j l m. behind e j l m (p j) refl)

      by : (b : Bool) → p i ≡ b → first_from q (i + 1) k ≡ still_live ts (first_from p (i + 1) k)
          → first_from q i (suc k) ≡ still_live ts (pick b (some i) (first_from p (i + 1) k))
      by true e f = here e (q i) refl ∙ ap (λ (b : Bool). pick b (some i) none) (same i (omega arith) (omega arith) e)
      by false e f = rw (less i (omega arith) (omega arith) e) f

-- ---- what the walk has left of the store in which it began

-- a coroutine has one live task at most
abbrev pub OneTask : Store → Type 0
OneTask s = (c t u : ℕ) → t < (header s).next → u < (header s).next → T (is_task_of_at (task s) c t) → T (is_task_of_at (task s) c u) → t ≡ u

-- a task that lives is as it was
record Left (s : Store) (w : Walk) : Type 0 where
  sized : Sized w.store
  head : header w.store ≡ header s
  began : (o : ℕ) → w.tasks_of o ≡ task_of s o
  rows : (t : ℕ) → t < task_limit → is_live (task w.store t).state ≡ true → task w.store t ≡ task s t

-- the walk without its tasks of coroutines
abbrev blind : Walk → Walk
blind w = record { store = w.store; tasks_of = λ o. none; marks = w.marks; stack = w.stack }

-- n is the walk x, but knows no tasks of coroutines
record Alike (s : Store) (n x : Walk) : Type 0 where
  left : Left s x
  same : n ≡ blind x

module _ (s : Store) (one : OneTask s) where
  -- the task found in the beginning, if it still lives, is the one found now
  found-now : (w : Walk) (o : ℕ) → Left s w → task_of w.store o ≡ still_live w.store.tasks (w.tasks_of o)
  found-now w o f = searched ∙ ap (still_live w.store.tasks) (sym (f.began o))
    where
      p : ℕ → Bool
      p t = is_task_of o (task s t)

      q : ℕ → Bool
      q t = is_task_of o (task w.store t)

      same : (t : ℕ) → t < task_limit → p t ≡ true → q t ≡ is_live (task w.store t).state
      same t l e = by (is_live (task w.store t).state) refl
        where
          by : (b : Bool) → is_live (task w.store t).state ≡ b → q t ≡ b
          by true a = ap (is_task_of o) (f.rows t l a) ∙ e
          by false a = unfold is_task_of in (rw a)

      less : (t : ℕ) → t < task_limit → p t ≡ false → q t ≡ false
      less t l e = by (is_live (task w.store t).state) refl
        where
          by : (b : Bool) → is_live (task w.store t).state ≡ b → q t ≡ false
          by true a = ap (is_task_of o) (f.rows t l a) ∙ e
          by false a = unfold is_task_of in (rw a)

      drives : (t : ℕ) → 1 ≤ t → p t ≡ true → T (is_task_of_at (task s) o t)
      drives t l e = unfold is_task_of_at in (both _ _ (holds _ (ap not (ne_eqb t 0 (λ z. omega arith)))) (holds _ e))

      n : ℕ
      n = (header s).next - 1

      low : (j : ℕ) → j < 1 + n → 1 ≤ j → j < (header s).next
      low j a b = omega arith

      room : (j : ℕ) → j < 1 + n → j < task_limit
      room j a = omega (arith, (header-fits s).next_fits)

      searched : task_of w.store o ≡ still_live w.store.tasks (task_of s o)
      searched = unfold task_of task_of_in in
          (ap (λ (h : Header). first_from (λ t. is_task_of o (task_at w.store.tasks t)) 1 (h.next - 1)) f.head ∙ (unfold task in
          (still-first p q w.store.tasks n 1 (λ j a b. same j (room j b)) (λ j a b. less j (room j b))
          (λ j l a b c d x y. one o j l (low j b a) (low l d c) (drives j a x) (drives l c y)))))

  -- ---- each part of the walk

  reach-alike : (w : Walk) (g : ℕ) → Left s w → Alike s (reach (blind w) g) (reach w g)
  unfolding reach
  reach-alike w g f = by (is_some (as_awaited (object w.store g)) && not (get_or w.marks g false))
    where
      by : (b : Bool) → Alike s (reach_if (blind w) g b) (reach_if w g b)
      by true = unfold reach_if in (record { left = record { sized = f.sized; head = f.head; began = f.began; rows = f.rows }; same = refl })
      by false = unfold reach_if in (record { left = f; same = refl })

  -- a task goes
  gone-left : (w : Walk) (t : ℕ) → Left s w → Left s (record { store = cancel_one w.store t; tasks_of = w.tasks_of; marks = w.marks; stack = w.stack })
  unfolding cancel_one remove_task remove_from_ready_queue
  gone-left w t f =
      record {
        sized = sized-add_log _ (removed t) (sized-put_queue _ _ (sized-put_task w.store t absent f.sized));
        head = unfold add_log put_queue put_task header in f.head;
        began = f.began;
        rows = λ u l e. unfold add_log put_queue task in (row u l (ℕ_discrete u t) e);
      }
    where
      row : (u : ℕ) → u < task_limit → Dec (u ≡ t) → is_live (task (put_task w.store t absent) u).state ≡ true → task (put_task w.store t absent) u ≡ task s u
      row u l (yes q) e =
          let dead : is_live (task (put_task w.store u absent) u).state ≡ false = live-put_task w.store u absent f.sized l ∙ (unfold absent in refl) in
          absurd (true≢false (sym e ∙ (ap (λ (v : ℕ). is_live (task (put_task w.store v absent) u).state) (sym q) ∙ dead)))
      row u l (no d) e =
          let same : task (put_task w.store t absent) u ≡ task w.store u = task_put-other w.store t u absent d in
          same ∙ f.rows u l (sym (ap (λ (x : Task). is_live x.state) same) ∙ e)

  -- and what it is blocked on is reached
  remove-alike : (w : Walk) (t : ℕ) (b : Option ℕ) → Left s w → Alike s (remove_blocked (blind w) t b) (remove_blocked w t b)
  unfolding remove_blocked
  remove-alike w t none f = record { left = gone-left w t f; same = refl }
  remove-alike w t (some b) f = reach-alike _ b (gone-left w t f)

  visit-alike : (w : Walk) (o : ℕ) → Left s w → Alike s (visit_now (blind w) o) (visit w o)
  unfolding visit_now visit
  visit-alike w o f = subst (λ (d : Option ℕ). Alike s (visit_by (blind w) o d) (visit_by w o (still_live w.store.tasks (w.tasks_of o)))) (sym (found-now w o f)) (by _)
    where
      by : (d : Option ℕ) → Alike s (visit_by (blind w) o d) (visit_by w o d)
      by none = unfold visit_by in (reach-alike w o f)
      by (some t) = unfold visit_by in (remove-alike w t _ f)

  place-alike : (w : Walk) (p i m : ℕ) → Left s w → Alike s (visit_place_now (blind w) p i m) (visit_place w p i m)
  unfolding visit_place_now visit_place
  place-alike w p i m f = by (bit m i)
    where
      by : (b : Bool) → Alike s (pick b (visit_now (blind w) (place w.store p).item.0) (blind w)) (pick b (visit w (place w.store p).item.0) w)
      by true = visit-alike w (place w.store p).item.0 f
      by false = record { left = f; same = refl }

  open-alike : (k : ℕ) (w : Walk) (a : AwaitedGather) (i : ℕ) → Left s w → Alike s (visit_open_now (blind w) a i k) (visit_open w a i k)
  unfolding visit_open_now visit_open
  open-alike zero w a i f = record { left = f; same = refl }
  open-alike (suc k) w a i f =
      let x : Walk = visit_place w (a.first + i) i a.open_places in
      let p = place-alike w (a.first + i) i a.open_places f in
      subst (λ (n : Walk). Alike s (visit_open_now n a (i + 1) k) (visit_open x a (i + 1) k)) (sym p.same) (open-alike k x a (i + 1) p.left)

  gather-alike : (w : Walk) (a : Option AwaitedGather) → Left s w → Alike s (walk_gather_now (blind w) a) (walk_gather w a)
  unfolding walk_gather_now walk_gather
  gather-alike w none f = record { left = f; same = refl }
  gather-alike w (some a) f = open-alike a.count w a 0 f

  walk-alike : (k : ℕ) (w : Walk) → Left s w → walk_now k (blind w) ≡ walk k w
  unfolding walk_now walk
  walk-alike zero w f = refl
  walk-alike (suc k) w f = by w.stack (λ x y. walk-alike k x y)
    where
      by : (gs : List ℕ) → ((x : Walk) → Left s x → walk_now k (blind x) ≡ walk k x) → walk_next_now (λ x. walk_now k x) (blind w) gs ≡ walk_next (λ x. walk k x) w gs
      by [] go = unfold walk_next_now walk_next in refl
      by (g ∷ gs) go =
          let p = gather-alike (record { store = w.store; tasks_of = w.tasks_of; marks = w.marks; stack = gs }) (as_awaited (object w.store g))
          (record { sized = f.sized; head = f.head; began = f.began; rows = f.rows }) in
          unfold walk_next_now walk_next in (ap (walk_now k) p.same ∙ go _ p.left)

-- ---- the theorem

-- Where a coroutine has one live task at most, cancel leaves the store that a walk with the tasks of each moment leaves: the same tasks were removed, in the
-- same order.
pub one_task_cancels_now : (s : Store) (t : ℕ) → Sized s → OneTask s → cancel_task_now s t ≡ cancel_task s t
unfolding cancel_task_now cancel_task walk_from_now walk_from
one_task_cancels_now s t z one =
    let p = remove-alike s one (walk_from s) t (blocked_on (task s t).state) (unfold walk_from in (record { sized = z; head = refl; began = λ o. refl; rows = λ u l e. refl })) in
    ap (walk_now object_limit) p.same ∙ walk-alike s one object_limit _ p.left

-- So it is in every sound store, whichever task is cancelled.
pub cancels_now : (s : Store) (t : ℕ) → SoundStore s → cancel_task_now s t ≡ cancel_task s t
cancels_now s t h = one_task_cancels_now s t h.memory.sized (unfold view in h.facts.but.task_of)

-- The event `cancel`, on memory of its lengths: that the store is sound is the table's check 2.
pub cancel_steps_now : (s : Store) (t : ℕ) → Sized s → refusal s (Event.cancel t) ≡ 0 → step s (Event.cancel t) ≡ answer_cancel (forget s) (cancel_task_now (forget s) t)
cancel_steps_now s t z r =
    let one : OneTask (forget s) = unfold view in (sound_facts (forget s) (subst T (sym (sound-forget s)) (refusal-sound s (Event.cancel t) r))).but.task_of in
    accepted-step s (Event.cancel t) r ∙ (unfold accept in (ap (answer_cancel (forget s)) (sym (one_task_cancels_now (forget s) t (sized-forget s z) one))))
