-- Tests over numbers: conjunction, implication, what holds of every number below n, how many pass, and what stands in a list.
use Rattle.std.specs.Prelude.{ℕ, zero, suc, ◌+◌, Bool, true, false, ◌||◌, List, [], ◌∷◌, eqb}
use Rattle.asyncio.specs.States.{pick}

infixr 35 ◌and◌
-- both; it stays shut, so that a proof finds its parts
unfoldable pub ◌and◌ : Bool → Bool → Bool
◌and◌ true b = b
◌and◌ false b = false

-- if a then b
unfoldable pub implies : Bool → Bool → Bool
implies true b = b
implies false b = true

-- every number below n passes
unfoldable pub all_below : ℕ → (ℕ → Bool) → Bool
all_below zero p = true
all_below (suc n) p = all_below n p and p n

-- the sum over the numbers below n
unfoldable pub sum_below : ℕ → (ℕ → ℕ) → ℕ
sum_below zero f = 0
sum_below (suc n) f = sum_below n f + f n

-- how many of the k numbers from i on pass
abbrev pub count_from : (ℕ → Bool) → ℕ → ℕ → ℕ
count_from p i zero = 0
count_from p i (suc k) = pick (p i) (suc (count_from p (suc i) k)) (count_from p (suc i) k)

-- how many of the numbers below n pass
abbrev pub count : (ℕ → Bool) → ℕ → ℕ
count p n = count_from p 0 n

-- x stands in the list
unfoldable pub is_in : ℕ → List ℕ → Bool
is_in x [] = false
is_in x (y ∷ ys) = eqb y x || is_in x ys
