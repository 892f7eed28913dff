-- How a loop meets a test of every number below n: it runs up from 0, returns false at the first number that fails, and true at the end.
-- How early exits meet a chain of tests, and how a running sum goes on.
use Rattle.std.specs.Prelude.{◌≡◌, Bool, true}
use Rattle.std.proofs.Math.Path.{refl, sym}
use Rattle.std.proofs.Math.Bool.{false}
use Rattle.std.proofs.Math.Logic.{⊎_elim}
use Prim.Native.Nat.{ℕ, zero, suc, ◌+◌, ◌≤◌, ◌<◌}
use Rattle.std.proofs.Common.{eq-or-lt_of_le, le_of_suc-le-suc, add-one, arith}
use Rattle.machine.specs.Tests.{◌and◌, all_below, sum_below}

-- ---- both

pub and-false : (b : Bool) → b and false ≡ false
unfolding ◌and◌
and-false true = refl
and-false false = refl

pub and_unit : (b : Bool) → b and true ≡ b
unfolding ◌and◌
and_unit true = refl
and_unit false = refl

pub and_assoc : (a b c : Bool) → (a and b) and c ≡ a and b and c
unfolding ◌and◌
and_assoc true b c = refl
and_assoc false b c = refl

-- what a test decides of `and`
pub and_holds : {a : Bool} (b : Bool) → a ≡ true → a and b ≡ b
unfolding ◌and◌
and_holds b e = rw e

pub and_fails : {a : Bool} (b : Bool) → a ≡ false → a and b ≡ false
unfolding ◌and◌
and_fails b e = rw e

-- for `grind` at a chain `a && b && ..`
pub ruleset both = (and_holds, and_fails)

-- a chain of tests with early exits: each that held, then the one that failed, or the last
pub pass : {a b r : Bool} → true ≡ a → r ≡ b → r ≡ a and b
unfolding ◌and◌
pass e h = rw (← e) h

pub stop : {a : Bool} (b : Bool) → false ≡ a → false ≡ a and b
unfolding ◌and◌
stop b e = rw (← e)

-- ---- every number below n

module _ (p : ℕ → Bool) where
  pub all_none : all_below 0 p ≡ true
  unfolding all_below
  all_none = refl

  pub all_turn : (i : ℕ) → true ≡ p i → all_below i p ≡ true → all_below (i + 1) p ≡ true
  unfolding all_below ◌and◌
  all_turn i e h = rw (add-one, h, ← e)

  pub all_fails : (i n : ℕ) → i < n → false ≡ p i → false ≡ all_below n p
  unfolding all_below ◌and◌
  all_fails i zero l e = absurd (omega arith)
  all_fails i (suc n) l e =
      ⊎_elim (λ q. let e' : false ≡ p n = rw q at e in rw (← e') (sym (and-false (all_below n p))))
      (λ l'. rw (← all_fails i n l' e))
      (eq-or-lt_of_le (le_of_suc-le-suc l))

  pub all_end : (i n : ℕ) → i ≤ n → n ≤ i → all_below i p ≡ true → true ≡ all_below n p
  all_end i n a b h = let e : i ≡ n = omega arith in sym (rw e at h)

  -- a loop that runs up from 1
  pub all_end_from_one : (i n : ℕ) → n ≤ i → (1 ≤ n → i ≤ n) → all_below i p ≡ true → true ≡ all_below n p
  unfolding all_below
  all_end_from_one i zero a b h = refl
  all_end_from_one i (suc n) a b h = all_end i (suc n) (b (omega arith)) a h

  -- a test that all pass
  pub all_of : (n : ℕ) → ((i : ℕ) → i < n → p i ≡ true) → all_below n p ≡ true
  unfolding all_below ◌and◌
  all_of zero h = refl
  all_of (suc n) h = rw (h n (omega arith), all_of n (λ i l. h i (omega arith)))

  -- the first number taken out
  pub all_first : (n : ℕ) → all_below (suc n) p ≡ p 0 and all_below n (λ i. p (suc i))
  unfolding all_below ◌and◌
  all_first zero = sym (and_unit (p 0))
  all_first (suc n) = rw (all_first n) (and_assoc (p 0) (all_below n (λ i. p (suc i))) (p (suc n)))

-- tests that agree below n
pub all_same : (p q : ℕ → Bool) (n : ℕ) → ((i : ℕ) → i < n → p i ≡ q i) → all_below n p ≡ all_below n q
unfolding all_below
all_same p q zero h = refl
all_same p q (suc n) h = rw (all_same p q n (λ i l. h i (omega arith)), h n (omega arith))

-- two tests of the same rows are one pass
pub all_and : (p q : ℕ → Bool) (n : ℕ) → all_below n (λ i. p i and q i) ≡ all_below n p and all_below n q
unfolding all_below ◌and◌
all_and p q zero = refl
all_and p q (suc n) = rw (all_and p q n) (swap (all_below n p) (all_below n q) (p n) (q n))
  where
    swap : (a b x y : Bool) → (a and b) and (x and y) ≡ (a and x) and (b and y)
    swap false b x y = refl
    swap true true x y = refl
    swap true false true y = refl
    swap true false false y = refl

-- ---- sums

pub sum_none : (f : ℕ → ℕ) → 0 ≡ sum_below 0 f
unfolding sum_below
sum_none f = refl

-- the sum with one number more
pub sum_turn : (f : ℕ → ℕ) (i : ℕ) {s x : ℕ} → s ≡ sum_below i f → x ≡ f i → s + x ≡ sum_below (i + 1) f
unfolding sum_below
sum_turn f i e h = rw (add-one, ← e, ← h)
