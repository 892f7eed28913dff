-- A test that holds, and what it says: conjunction, implication, every number below n.
use Rattle.std.specs.Prelude.{◌≡◌, refl, Bool, true, false, not, ◌||◌, ◌&&◌, ℕ, zero, suc, ◌+◌, ◌<◌, ◌≤◌, T, ltb}
use Rattle.std.proofs.Common.{sym, subst, true≢false, not-suc-le-zero, arith, ltb→lt, lt→ltb}
use Rattle.std.specs.Bool.{beq}
use Rattle.std.proofs.Math.Decide.{ℕ_discrete, dec_lt}
use Rattle.machine.specs.Tests.{◌and◌, implies, all_below, sum_below}

pub holds : (b : Bool) → b ≡ true → T b
holds b e = rw e tt

pub is_true : (b : Bool) → T b → b ≡ true
is_true true t = refl
is_true false t = absurd t

pub is_false : (b : Bool) → T (not b) → b ≡ false
is_false true t = absurd t
is_false false t = refl

pub not-not : (b : Bool) → not b ≡ false → T b
not-not true e = tt
not-not false e = absurd (true≢false e)

pub and-true : (a b : Bool) → (a && b) ≡ true → (a ≡ true) × (b ≡ true)
and-true true b e = (refl, e)
and-true false b e = (e, absurd (true≢false (sym e)))

pub or_second : (a b : Bool) → T b → T (a || b)
or_second true b t = tt
or_second false b t = t

-- ---- both

pub both : (a b : Bool) → T a → T b → T (a and b)
unfolding ◌and◌
both true b x y = y
both false b x y = x

pub both_left : (a b : Bool) → T (a and b) → T a
unfolding ◌and◌
both_left true b t = tt
both_left false b t = t

pub both_right : (a b : Bool) → T (a and b) → T b
unfolding ◌and◌
both_right true b t = t
both_right false b t = absurd t

-- ---- if, or, the same

pub implies_use : (a b : Bool) → T a → T (implies a b) → T b
unfolding implies
implies_use true b h t = t
implies_use false b h t = absurd h

pub implies_give : (a b : Bool) → (T a → T b) → T (implies a b)
unfolding implies
implies_give true b f = f tt
implies_give false b f = tt

pub implies-map : (a b c : Bool) → (T b → T c) → T (implies a b) → T (implies a c)
implies-map a b c f t = implies_give a c (λ h. f (implies_use a b h t))

pub or_use : (a b : Bool) → a ≡ false → T (a || b) → T b
or_use a b e t = rw e at t

pub or_give : (a b : Bool) → (a ≡ false → T b) → T (a || b)
or_give true b f = tt
or_give false b f = f refl

pub or_left : (a b : Bool) → (a || b) ≡ false → a ≡ false
or_left true b e = e
or_left false b e = refl

pub or_right : (a b : Bool) → (a || b) ≡ false → b ≡ false
or_right true b e = absurd (true≢false e)
or_right false b e = e

pub same_use : (a b : Bool) → T (beq a b) → a ≡ b
same_use true true t = refl
same_use true false t = absurd t
same_use false true t = absurd t
same_use false false t = refl

pub same_give : (a b : Bool) → a ≡ b → T (beq a b)
same_give true true e = tt
same_give true false e = true≢false e
same_give false true e = true≢false (sym e)
same_give false false e = tt

-- ---- every number below n

pub below : (n : ℕ) (p : ℕ → Bool) → T (all_below n p) → (i : ℕ) → i < n → T (p i)
unfolding all_below
below zero p t i h = absurd (not-suc-le-zero h)
below (suc n) p t i h = by (dec_lt i n) (λ k. below n p (both_left _ _ t) i k)
  where
    by : Dec (i < n) → (i < n → T (p i)) → T (p i)
    by (yes k) f = f k
    by (no k) f = let e : n ≡ i = omega arith in subst (λ (m : ℕ). T (p m)) e (both_right _ _ t)

pub from-below : (n : ℕ) (p : ℕ → Bool) → ((i : ℕ) → i < n → T (p i)) → T (all_below n p)
unfolding all_below
from-below zero p f = tt
from-below (suc n) p f = both _ _ (from-below n p (λ i h. f i (omega arith))) (f n (omega arith))

pub ltb_more : (a m n : ℕ) → m ≤ n → T (ltb a m) → T (ltb a n)
ltb_more a m n l t = lt→ltb a n (omega (arith, ltb→lt a m t))

-- ---- sums

pub sum_same : (n : ℕ) (f g : ℕ → ℕ) → ((i : ℕ) → i < n → f i ≡ g i) → sum_below n f ≡ sum_below n g
unfolding sum_below
sum_same zero f g h = refl
sum_same (suc n) f g h = rw (sum_same n f g (λ i l. h i (omega arith)), h n (omega arith))

pub sum_last : (f : ℕ → ℕ) (n : ℕ) → sum_below (n + 1) f ≡ sum_below n f + f n
unfolding sum_below
sum_last f n = let e : n + 1 ≡ suc n = omega arith in rw e

pub sum_more : (f : ℕ → ℕ) (m n : ℕ) → m ≤ n → sum_below m f ≤ sum_below n f
unfolding sum_below
sum_more f m zero l = let e : m ≡ 0 = omega arith in rw e (omega arith)
sum_more f m (suc n) l = by (ℕ_discrete m (suc n)) (λ k. sum_more f m n k)
  where
    by : Dec (m ≡ suc n) → (m ≤ n → sum_below m f ≤ sum_below n f) → sum_below m f ≤ sum_below (suc n) f
    by (yes e) h = rw e (omega arith)
    by (no ne) h = omega (arith, h (omega arith))
