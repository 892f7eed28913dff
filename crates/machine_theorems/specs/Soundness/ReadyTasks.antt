-- The ready queue's clause by what stands in the queue, not by place: every entry is a ready task, and none stands twice.
use Rattle.std.specs.Prelude.{◌≡◌, refl, true, false, List, [], ◌∷◌, ◌++◌, ℕ, zero, suc, ◌+◌, ◌-◌, ◌≤◌, ◌<◌, T, eqb, length, get_or}
use Rattle.std.proofs.Common.{sym, subst, not-suc-le-zero, arith, ltb→lt, lt→ltb, T_not, eqb→eq, eq-eqb, ne_eqb}
use Rattle.std.proofs.Math.Decide.{ℕ_discrete, dec_lt}
use Rattle.std.proofs.Math.Dec.{not_T, eqb_refl}
use Rattle.asyncio.specs.declared.Task.{Task}
use Rattle.asyncio.specs.States.{pick, is_ready}
use Rattle.asyncio.specs.Limits.{task_limit}
use Rattle.queue.specs.declared.ReadyQueue.{ReadyQueue}
use Rattle.queue.specs.Queue.{entries, push_back, remove, occurrences, Distinct, without}
use Rattle.queue.proofs.QueueLaws.{push_back-full, entries_push, entries-remove, occurrences_append, occurrences-without, at_most_once, distinct_append, distinct_without}
use Rattle.queue.proofs.OrderLaws.{distinct_same}
use Rattle.machine.specs.Sound.{entry_ready}
use Rattle.machine_laws.specs.Views.{update}
use Rattle.machine_laws.specs.TestLaws.{both, both_left, both_right, below, from-below}
use Rattle.machine_laws.specs.StoreLaws.{update_case}

-- what stands in the queue is a task below the next number that is ready, and nothing stands there twice
pub record Queued (next : ℕ) (ts : ℕ → Task) (q : List ℕ) : Type 0 where
  pub ready : (t : ℕ) → 1 ≤ occurrences q t → (t < next) × T (is_ready (ts t).state)
  pub distinct : Distinct q

-- every place passes the test
abbrev pub AllReady : ℕ → (ℕ → Task) → List ℕ → Type 0
AllReady next ts q = (i : ℕ) → i < length q → T (entry_ready next ts q i)

-- ---- places and what stands there

-- a place of the list that holds t
record Stands (q : List ℕ) (t : ℕ) : Type 0 where
  at : ℕ
  under : at < length q
  holds_it : get_or q at 0 ≡ t

stands : (q : List ℕ) (t : ℕ) → 1 ≤ occurrences q t → Stands q t
unfolding occurrences
stands [] t h = absurd (not-suc-le-zero {n = 0} (omega arith))
stands (x ∷ xs) t h = by (ℕ_discrete x t) (λ l. stands xs t l)
  where
    by : Dec (x ≡ t) → (1 ≤ occurrences xs t → Stands xs t) → Stands (x ∷ xs) t
    by (yes e) f = record { at = 0; under = omega arith; holds_it = e }
    by (no ne) f =
        let z : eqb x t ≡ false = ne_eqb x t ne in
        let k : 1 ≤ pick {A = ℕ} false 1 0 + occurrences xs t = rw z at h in
        let s : Stands xs t = f (omega arith) in
        record { at = suc s.at; under = omega (arith, s.under); holds_it = s.holds_it }

occurs : (q : List ℕ) (i : ℕ) → i < length q → 1 ≤ occurrences q (get_or q i 0)
unfolding occurrences
occurs [] i h = absurd (not-suc-le-zero {n = 0} (omega arith))
occurs (x ∷ xs) zero h = rw (eq-eqb x x refl) (omega arith)
occurs (x ∷ xs) (suc i) h = omega (arith, occurs xs i (omega arith))

distinct_of : (q : List ℕ) → ((i j : ℕ) → i < length q → j < i → get_or q j 0 ≡ get_or q i 0 → ⊥) → Distinct q
unfolding Distinct
distinct_of [] h = tt
distinct_of (x ∷ xs) h = (none (ℕ_discrete (occurrences xs x) 0), distinct_of xs (λ i j l m e. h (suc i) (suc j) (omega arith) (omega arith) e))
  where
    none : Dec (occurrences xs x ≡ 0) → occurrences xs x ≡ 0
    none (yes e) = e
    none (no ne) = let s : Stands xs x = stands xs x (omega arith) in absurd (h (suc s.at) 0 (omega (arith, s.under)) (omega arith) (sym s.holds_it))

apart : (q : List ℕ) → Distinct q → (i j : ℕ) → i < length q → j < i → get_or q j 0 ≡ get_or q i 0 → ⊥
unfolding Distinct
apart [] d i j l m e = not-suc-le-zero {n = 0} (omega arith)
apart (x ∷ xs) d zero j l m e = not-suc-le-zero {n = 0} (omega arith)
apart (x ∷ xs) d (suc i) zero l m e =
    let z : 1 ≤ occurrences xs x = subst (λ (n : ℕ). 1 ≤ occurrences xs n) (sym e) (occurs xs i (omega arith)) in
    not-suc-le-zero {n = 0} (omega (arith, d.0))
apart (x ∷ xs) d (suc i) (suc j) l m e = apart xs d.1 i j (omega arith) (omega arith) e

-- ---- the test and the facts

pub to_queued : (next : ℕ) (ts : ℕ → Task) (q : List ℕ) → AllReady next ts q → Queued next ts q
unfolding entry_ready
to_queued next ts q h =
    record {
      ready = λ t l.
          let s : Stands q t = stands q t l in
          let k = h s.at s.under in
          subst (λ (u : ℕ). (u < next) × T (is_ready (ts u).state)) s.holds_it
          (ltb→lt (get_or q s.at 0) next (both_left _ _ k), both_left _ _ (both_right _ _ k));
      distinct = distinct_of q (λ i j l m e.
          let k = both_right (is_ready (ts (get_or q i 0)).state) _ (both_right _ _ (h i l)) in
          T_not (eqb (get_or q j 0) (get_or q i 0)) (below i _ k j m) (subst (λ (u : ℕ). T (eqb (get_or q j 0) u)) e (eqb_refl (get_or q j 0))));
    }

pub from-queued : (next : ℕ) (ts : ℕ → Task) (q : List ℕ) → Queued next ts q → AllReady next ts q
unfolding entry_ready
from-queued next ts q h i l =
    let k = h.ready (get_or q i 0) (occurs q i l) in
    both _ _ (lt→ltb (get_or q i 0) next k.0) (both _ _ k.1
    (from-below i _ (λ j m. not_T (eqb (get_or q j 0) (get_or q i 0)) (λ e. apart q h.distinct i j l m (eqb→eq (get_or q j 0) (get_or q i 0) e)))))

-- ---- the queue changes

-- in another order
pub queued-ordered : {next : ℕ} {ts : ℕ → Task} (q r : List ℕ) → ((t : ℕ) → occurrences r t ≡ occurrences q t) → Queued next ts q → Queued next ts r
queued-ordered q r same h = record { ready = λ t l. h.ready t (subst (λ (n : ℕ). 1 ≤ n) (same t) l); distinct = distinct_same q r same h.distinct }

-- a task that is not ready does not stand there
pub not-queued : {next : ℕ} {ts : ℕ → Task} {q : List ℕ} (t : ℕ) → is_ready (ts t).state ≡ false → Queued next ts q → occurrences q t ≡ 0
not-queued {q = q} t e h = by (ℕ_discrete (occurrences q t) 0)
  where
    by : Dec (occurrences q t ≡ 0) → occurrences q t ≡ 0
    by (yes z) = z
    by (no ne) = absurd (subst T e (h.ready t (omega arith)).1)

-- nor does a number at or past the next
pub none-queued : {next : ℕ} {ts : ℕ → Task} {q : List ℕ} (t : ℕ) → next ≤ t → Queued next ts q → occurrences q t ≡ 0
none-queued {q = q} t l h = by (ℕ_discrete (occurrences q t) 0)
  where
    by : Dec (occurrences q t ≡ 0) → occurrences q t ≡ 0
    by (yes z) = z
    by (no ne) = absurd (not-suc-le-zero {n = 0} (omega (arith, (h.ready t (omega arith)).0)))

-- nothing stands there
pub none-ready : (next : ℕ) (ts : ℕ → Task) → Queued next ts []
unfolding occurrences Distinct
none-ready next ts = record { ready = λ t l. absurd (not-suc-le-zero {n = 0} (omega arith)); distinct = tt }

-- fewer entries, of those that stood there
pub queued_less : {next : ℕ} {ts : ℕ → Task} {q p : List ℕ} → ((u : ℕ) → 1 ≤ occurrences p u → 1 ≤ occurrences q u) → Distinct p → Queued next ts q → Queued next ts p
queued_less f d h = record { ready = λ t l. h.ready t (f t l); distinct = d }

not_the_one : (t u : ℕ) → (t ≡ u → ⊥) → occurrences (t ∷ []) u ≡ 0
unfolding occurrences
not_the_one t u ne = rw (ne_eqb t u ne)

module _ {next : ℕ} {ts : ℕ → Task} {q : List ℕ} (t : ℕ) (r : Task) (h : Queued next ts q) where
  other : (u : ℕ) → occurrences q t ≡ 0 → 1 ≤ occurrences q u → u ≡ t → ⊥
  other u z l e = not-suc-le-zero {n = 0} (omega (arith, subst (λ (n : ℕ). 1 ≤ occurrences q n) e l))

  -- the row of a task that does not stand there is written; the next number may grow
  pub queued-same : (n : ℕ) → next ≤ n → occurrences q t ≡ 0 → Queued n (update ts t r) q
  queued-same n m z =
      record {
        ready = λ u l. update_case ts t r (λ (y : Task). (u < n) × T (is_ready y.state)) u (λ e. absurd (other u z l e))
            (λ ne. let y = h.ready u l in (omega (arith, y.0), y.1));
        distinct = h.distinct;
      }

  -- a task with a new row comes to the back
  pub queued_push : (n : ℕ) → next ≤ n → occurrences q t ≡ 0 → t < n → T (is_ready r.state) → Queued n (update ts t r) (q ++ (t ∷ []))
  queued_push n m z l k =
      record {
        ready = λ u i. update_case ts t r (λ (y : Task). (u < n) × T (is_ready y.state)) u (λ e. (omega arith, k))
            (λ ne. let y = h.ready u (was u ne i) in (omega (arith, y.0), y.1));
        distinct = distinct_append q t h.distinct z;
      }
    where
      was : (u : ℕ) → (u ≡ t → ⊥) → 1 ≤ occurrences (q ++ (t ∷ [])) u → 1 ≤ occurrences q u
      was u ne i =
          omega (arith, occurrences_append q (t ∷ []) u, not_the_one t u (λ d. ne (sym d)))

  -- a task goes out, and its row is written
  pub queued_off : Queued next (update ts t r) (without q t)
  queued_off =
      record {
        ready = λ u l. update_case ts t r (λ (y : Task). (u < next) × T (is_ready y.state)) u (λ e. absurd (gone u e l)) (λ ne. h.ready u (was u l));
        distinct = distinct_without q t h.distinct;
      }
    where
      was : (u : ℕ) → 1 ≤ occurrences (without q t) u → 1 ≤ occurrences q u
      was u l = omega (arith, occurrences-without q t u)

      gone : (u : ℕ) → u ≡ t → 1 ≤ occurrences (without q t) u → ⊥
      gone u e l =
          let z : eqb t u ≡ true = eq-eqb t u (sym e) in
          let k : occurrences (without q t) u ≡ occurrences q u - 1 = (rw z at (occurrences-without q t u)) in
          not-suc-le-zero {n = 0} (omega (arith, at_most_once q h.distinct u))

-- what was taken out is gone
pub gone : (q : List ℕ) (t : ℕ) → Distinct q → occurrences (without q t) t ≡ 0
gone q t d =
    let k : occurrences (without q t) t ≡ occurrences q t - 1 = (rw (eq-eqb t t refl) at (occurrences-without q t t)) in
    omega (arith, at_most_once q d t)

pub was_there : (q : List ℕ) (t u : ℕ) → 1 ≤ occurrences (without q t) u → 1 ≤ occurrences q u
was_there q t u l = omega (arith, occurrences-without q t u)

-- the first goes
pub head_gone : {next : ℕ} {ts : ℕ → Task} {t : ℕ} {q : List ℕ} → Queued next ts (t ∷ q)
    → ((t < next) × T (is_ready (ts t).state)) × (occurrences q t ≡ 0) × Queued next ts q
unfolding occurrences Distinct
head_gone {t = t} {q = q} h = (
  h.ready t (rw (eq-eqb t t refl) (omega arith)),
  h.distinct.0,
  queued_less (λ u l. omega arith) h.distinct.1 h,
)

-- ---- the queue of a store

module _ (q : ReadyQueue) (ids : length q.ids ≡ task_limit) {next : ℕ} {ts : ℕ → Task} (t : ℕ) (r : Task) where
  -- a full queue stays
  pub queued-back : (n : ℕ) → next ≤ n → occurrences (entries q) t ≡ 0 → t < n → T (is_ready r.state) → Queued next ts (entries q)
      → Queued n (update ts t r) (entries (push_back q t))
  queued-back n m z l k h = by (dec_lt q.len task_limit)
    where
      by : Dec (q.len < task_limit) → Queued n (update ts t r) (entries (push_back q t))
      by (yes y) = subst (Queued n (update ts t r)) (sym (entries_push q t ids y)) (queued_push t r h n m z l k)
      by (no y) = subst (λ (p : ReadyQueue). Queued n (update ts t r) (entries p)) (sym (push_back-full q t (omega arith))) (queued-same t r h n m z)

  pub queued-remove : q.len ≤ task_limit → Queued next ts (entries q) → Queued next (update ts t r) (entries (remove q t))
  queued-remove l h = subst (Queued next (update ts t r)) (sym (entries-remove q t ids l)) (queued_off t r h)
