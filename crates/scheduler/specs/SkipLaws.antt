-- How the skips meet `any_of`, and that a search and the list of calls are the same from where they begin.
use Rattle.std.proofs.Math.Path.{◌≡◌, refl}
use Rattle.std.proofs.Common.{sym, ◌∙◌, eq-or-lt_of_le, add-one, arith, leb-true, leb-false}
use Rattle.std.specs.Prelude.{Bool, List, [], leb}
use Rattle.std.proofs.Math.Bool.{true, false}
use Rattle.std.proofs.Math.Logic.{⊎_elim}
use Prim.Native.Nat.{ℕ, zero, suc, ◌+◌, ◌-◌, ◌≤◌, ◌<◌}
use Rattle.asyncio.specs.States.{pick}
use Rattle.asyncio.specs.Numbers.{heap_id}
use Rattle.asyncio.specs.declared.HeapId.{HeapId}
use Rattle.machine.specs.Scheduler.{first_from, calls_below}
use Rattle.scheduler.specs.SearchLaws.{first_turn}
use Rattle.scheduler.specs.Skips.{is_pending, any_of, BeginsAt}

module _ (p : ℕ → Bool) where
  -- ---- one of the next k

  -- the code tested object h, which is i, and found b: one of the k + 1 numbers from i on has p, or the answer is that of the next k
  module _ (i k : ℕ) {h : HeapId} {b : Bool} (e : h ≡ heap_id i) (f : b ≡ p h.0) where
    pub any_here : b ≡ true → true ≡ any_of p i (suc k)
    unfolding any_of
    any_here t = let q : p i ≡ true = rw e at (sym f ∙ t) in rw q

    pub any_next : (j : ℕ) {r : Bool} → j ≡ i + 1 → b ≡ false → r ≡ any_of p j k → r ≡ any_of p i (suc k)
    unfolding any_of
    any_next j n t g = let q : p i ≡ false = rw e at (sym f ∙ t) in rw (q, ← n) g

  pub any_last : (i : ℕ) {h : HeapId} {b : Bool} → h ≡ heap_id i → b ≡ p h.0 → b ≡ any_of p i 1
  unfolding any_of
  any_last i e f = rw (f, e) (by (p i))
    where
      by : (t : Bool) → t ≡ pick t true false
      by true = refl
      by false = refl

  none_of : (k o i : ℕ) → any_of p o k ≡ false → o ≤ i → i < o + k → p i ≡ false
  unfolding any_of
  none_of zero o i e l h = absurd (omega arith)
  none_of (suc k) o i e l h = by (p o) refl e (λ (f : any_of p (o + 1) k ≡ false) (s : o < i). none_of k (o + 1) i f (omega arith) (omega arith))
    where
      by : (b : Bool) → p o ≡ b → pick b true (any_of p (o + 1) k) ≡ false → (any_of p (o + 1) k ≡ false → o < i → p i ≡ false) → p i ≡ false
      by true q e go = let z : ◌≡◌ {A = ℕ} 0 1 = cc in absurd (omega arith)
      by false q e go = ⊎_elim (λ (s : o ≡ i). rw (← s) q) (go e) (eq-or-lt_of_le l)

  -- ---- where a search may begin

  pub begins : (n : ℕ) → BeginsAt p n 0
  begins n = record { within = omega arith; none_before = λ i h. absurd (omega arith) }

  -- k numbers further
  pub begins_further : (n o k : ℕ) → BeginsAt p n o → o + k ≤ n → any_of p o k ≡ false → BeginsAt p n (o + k)
  begins_further n o k b h e = record { within = h; none_before = λ i l. by i l (leb o i) refl }
    where
      by : (i : ℕ) → i < o + k → (t : Bool) → leb o i ≡ t → p i ≡ false
      by i l true q = none_of k o i e (leb-true o i q) l
      by i l false q = b.none_before i (leb-false o i q)

  -- the search from the beginning
  pub first_begins : (n r : ℕ) → BeginsAt p n r → first_from p r (n - r) ≡ first_from p 0 (n - 0)
  first_begins n zero b = refl
  first_begins n (suc r) b =
      let h : r < n = b.within in
      rw (add-one r) at (first_turn p r n h refl (sym (b.none_before r (omega arith))))
      ∙ first_begins n r (record { within = omega arith; none_before = λ i l. b.none_before i (omega arith) })

-- no call below where the search for a pending external begins
pub no_calls_before : (os : List ℕ) (n r : ℕ) → BeginsAt (is_pending os) n r → calls_below os r ≡ []
unfolding calls_below
no_calls_before os n zero b = refl
no_calls_before os n (suc r) b =
    rw (b.none_before r (omega arith)) (no_calls_before os n r (record { within = omega arith; none_before = λ i l. b.none_before i (omega arith) }))
