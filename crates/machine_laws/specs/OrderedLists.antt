-- Ascending lists: the numbers that pass a test are one, and there is only one for the same numbers.
use Rattle.std.specs.Prelude.{◌≡◌, Bool, true, false, List, [], ◌∷◌, ℕ, zero, suc, ◌+◌, ◌≤◌, ◌<◌, leb}
use Rattle.std.proofs.Math.Path.{refl}
use Rattle.std.proofs.Common.{sym, ap₂, subst, arith, eq-eqb, ne_eqb, leb-true, leb-false}
use Rattle.std.proofs.Math.Nat.{not-suc-le-zero}
use Rattle.std.proofs.Math.Decide.{ℕ_discrete}
use Rattle.asyncio.specs.States.{pick}
use Rattle.asyncio.specs.RangeLaws.{pick_has}
use Rattle.queue.specs.Queue.{one_if_same, occurrences, NoneBelow, Ascending}
use Rattle.machine.specs.WakeOrder.{those_from}

-- ---- the same numbers, ascending: the same list

-- nothing below the first stands in an ascending list
below-absent : (l : List ℕ) (x t : ℕ) → NoneBelow x l → t < x → occurrences l t ≡ 0
unfolding NoneBelow occurrences
below-absent [] x t n h = refl
below-absent (y ∷ l) x t n h = rw (ne_eqb y t (λ e. not-suc-le-zero {n = 0} (omega (arith, n.0, e)))) (omega (arith, below-absent l x t n.1 h))

head-counted : (x : ℕ) (l : List ℕ) → 1 ≤ occurrences (x ∷ l) x
unfolding occurrences
head-counted x l = rw (eq-eqb x x refl) (omega arith)

-- the first of one is not above the first of the other
head_low : (x y : ℕ) (l m : List ℕ) → Ascending (y ∷ m) → occurrences (x ∷ l) x ≡ occurrences (y ∷ m) x → y ≤ x
unfolding Ascending
head_low x y l m a e = by (leb y x) refl
  where
    by : (b : Bool) → leb y x ≡ b → y ≤ x
    by true q = leb-true y x q
    by false q =
        let low : x < y = leb-false y x q in
        let none : occurrences (y ∷ m) x ≡ 0 = unfold occurrences in (rw (ne_eqb y x (λ z. not-suc-le-zero {n = 0} (omega (arith, low, z)))) (omega (arith, below-absent m y x a.0 low))) in
        absurd (not-suc-le-zero {n = 0} (omega (arith, head-counted x l, e, none)))

empty_counts : (x : ℕ) (l : List ℕ) → occurrences [] x ≡ occurrences (x ∷ l) x → ⊥
empty_counts x l e =
    let none : occurrences [] x ≡ 0 = unfold occurrences in refl in
    not-suc-le-zero {n = 0} (omega (arith, head-counted x l, e, none))

pub ascending-same : (l m : List ℕ) → Ascending l → Ascending m → ((t : ℕ) → occurrences l t ≡ occurrences m t) → l ≡ m
unfolding Ascending occurrences
ascending-same [] [] a b e = refl
ascending-same [] (y ∷ m) a b e = absurd (empty_counts y m (e y))
ascending-same (x ∷ l) [] a b e = absurd (empty_counts x l (sym (e x)))
ascending-same (x ∷ l) (y ∷ m) a b e = by (same (head_low x y l m b (e x)) (head_low y x m l a (sym (e y)))) (λ k. ascending-same l m a.1 b.1 k)
  where
    same : y ≤ x → x ≤ y → x ≡ y
    same p q = omega (arith, p, q)

    by : x ≡ y → (((t : ℕ) → occurrences l t ≡ occurrences m t) → l ≡ m) → x ∷ l ≡ y ∷ m
    by q go = ap₂ (λ (z : ℕ) (zs : List ℕ). z ∷ zs) q (go (λ t. omega (arith, subst (λ (z : ℕ). one_if_same x t + occurrences l t ≡ one_if_same z t + occurrences m t) (sym q) (e t))))

-- ---- the numbers that pass a test

those-below : (p : ℕ → Bool) (k i x : ℕ) → x ≤ i → NoneBelow x (those_from p i k)
unfolding those_from NoneBelow
those-below p zero i x h = tt
those-below p (suc k) i x h = pick_has (NoneBelow x) (p i) (h, those-below p k (i + 1) x (omega arith)) (those-below p k (i + 1) x (omega arith))

pub those_ascend : (p : ℕ → Bool) (k i : ℕ) → Ascending (those_from p i k)
unfolding those_from Ascending
those_ascend p zero i = tt
those_ascend p (suc k) i = pick_has Ascending (p i) (those-below p k (i + 1) i (omega arith), those_ascend p k (i + 1)) (those_ascend p k (i + 1))

-- none below the first number
those-none : (p : ℕ → Bool) (k i t : ℕ) → t < i → occurrences (those_from p i k) t ≡ 0
those-none p k i t h = below-absent (those_from p i k) i t (those-below p k i i (omega arith)) h

-- each that passes stands there once, and no other
pub those-count : (p : ℕ → Bool) (k i t : ℕ) → i ≤ t → t < i + k → occurrences (those_from p i k) t ≡ pick (p t) 1 0
unfolding those_from occurrences
those-count p zero i t l h = absurd (not-suc-le-zero {n = 0} (omega arith))
those-count p (suc k) i t l h = by (ℕ_discrete i t) (p i) refl (λ n. those-count p k (i + 1) t (omega (arith, n)) (omega (arith, h)))
  where
    rest : List ℕ
    rest = those_from p (i + 1) k

    by : Dec (i ≡ t) → (b : Bool) → p i ≡ b → ((i ≡ t → ⊥) → occurrences rest t ≡ pick (p t) 1 0) → occurrences (pick b (i ∷ rest) rest) t ≡ pick (p t) 1 0
    by (yes q) true e go = rw (← q, e, eq-eqb i i refl) (omega (arith, those-none p k (i + 1) i (omega arith)))
    by (yes q) false e go = rw (← q, e) (those-none p k (i + 1) i (omega arith))
    by (no ne) true e go = rw (ne_eqb i t ne) (omega (arith, go ne))
    by (no ne) false e go = go ne

-- none past the last
pub those_past : (p : ℕ → Bool) (k i t : ℕ) → i + k ≤ t → occurrences (those_from p i k) t ≡ 0
unfolding those_from occurrences
those_past p zero i t h = refl
those_past p (suc k) i t h = by (p i) (those_past p k (i + 1) t (omega arith))
  where
    by : (b : Bool) → occurrences (those_from p (i + 1) k) t ≡ 0 → occurrences (pick b (i ∷ those_from p (i + 1) k) (those_from p (i + 1) k)) t ≡ 0
    by true e = rw (ne_eqb i t (λ q. not-suc-le-zero {n = 0} (omega (arith, q)))) (omega (arith, e))
    by false e = e
