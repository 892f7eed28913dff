-- The ready queue has room for a task that does not stand in it: its entries are distinct and below the next number.
use Rattle.std.specs.Prelude.{◌≡◌, refl, Bool, true, List, [], ◌∷◌, ℕ, zero, suc, ◌+◌, ◌-◌, ◌≤◌, ◌<◌, T, eqb, length}
use Rattle.std.proofs.Common.{sym, ap, subst, ◌∙◌, not-suc-le-zero, eq-eqb, ne_eqb}
use Rattle.std.proofs.Math.Bool.{false}
use native.Mathlib.Omega.{arith}
use Rattle.std.proofs.Math.Decide.{ℕ_discrete}
use Rattle.asyncio.specs.declared.Task.{Task}
use Rattle.asyncio.specs.Limits.{task_limit}
use Rattle.asyncio.specs.States.{pick}
use Rattle.queue.specs.declared.ReadyQueue.{ReadyQueue}
use Rattle.queue.specs.Queue.{entries, without, occurrences, Distinct, push_back}
use Rattle.queue.proofs.QueueLaws.{length-entries, occurrences-without, distinct_without, occurrences_push}
use Rattle.machine_theorems.specs.Soundness.ReadyTasks.{Queued, gone, was_there}

length_without : (l : List ℕ) (t : ℕ) → length l ≤ suc (length (without l t))
unfolding without
length_without [] t = omega arith
length_without (x ∷ xs) t = by (eqb x t) (length_without xs t)
  where
    by : (b : Bool) → length xs ≤ suc (length (without xs t)) → suc (length xs) ≤ suc (length (pick b xs (x ∷ without xs t)))
    by true h = omega arith
    by false h = omega arith

occurs_first : (x : ℕ) (xs : List ℕ) → 1 ≤ occurrences (x ∷ xs) x
unfolding occurrences
occurs_first x xs = rw (eq-eqb x x refl) (omega arith)

-- distinct numbers below n are at most n
pub few : (n : ℕ) (l : List ℕ) → Distinct l → ((x : ℕ) → 1 ≤ occurrences l x → x < n) → length l ≤ n
few zero [] d h = omega arith
few zero (x ∷ xs) d h = absurd (not-suc-le-zero {n = 0} (omega (arith, h x (occurs_first x xs))))
few (suc n) l d h =
    omega (arith, length_without l n, few n (without l n) (distinct_without l n d) (λ x k. below x (h x (was_there l n x k)) k))
  where
    below : (x : ℕ) → x < suc n → 1 ≤ occurrences (without l n) x → x < n
    below x k o = by (ℕ_discrete x n)
      where
        by : Dec (x ≡ n) → x < n
        by (yes e) = absurd (not-suc-le-zero {n = 0} (omega (arith, gone l n d, subst (λ (y : ℕ). 1 ≤ occurrences (without l n) y) e o)))
        by (no ne) = omega arith

-- and one less, if one below n does not stand there
fewer : (n t : ℕ) (l : List ℕ) → Distinct l → ((x : ℕ) → 1 ≤ occurrences l x → x < n) → t < n → occurrences l t ≡ 0 → length l < n
unfolding Distinct
fewer n t l d h m z = let k : length (t ∷ l) ≤ n = few n (t ∷ l) (z, d) (λ x o. by x o (ℕ_discrete x t)) in k
  where
    by : (x : ℕ) → 1 ≤ occurrences (t ∷ l) x → Dec (x ≡ t) → x < n
    by x o (yes e) = omega arith
    by x o (no ne) = h x (other x o ne)
      where
        other : (x : ℕ) → 1 ≤ occurrences (t ∷ l) x → (x ≡ t → ⊥) → 1 ≤ occurrences l x
        other x o ne = let q : 1 ≤ pick (eqb t x) 1 0 + occurrences l x = unfold occurrences in o in
            let r : 1 ≤ pick {A = ℕ} false 1 0 + occurrences l x = rw (ne_eqb t x (λ e. ne (sym e))) at q in omega arith

-- The queue has room for t.
pub room_for : (q : ReadyQueue) {next : ℕ} {ts : ℕ → Task} (t : ℕ) → length q.ids ≡ task_limit → q.len ≤ task_limit → next ≤ task_limit → Queued next ts (entries q)
    → t < task_limit → occurrences (entries q) t ≡ 0 → q.len < task_limit
room_for q t ids len n h low z =
    omega (arith, length-entries q ids len, fewer task_limit t (entries q) h.distinct (λ x o. omega (arith, (h.ready x o).0)) low z)
