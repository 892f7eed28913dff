-- The items of a gather, where they stand in the bytes.
use Rattle.std.specs.Prelude.{ℕ, zero, suc, ◌+◌, min, List, [], ◌∷◌, ◌++◌, length, drop}
use Rattle.endian.specs.Endian.{le2}

-- k numbers of two bytes from a place on
unfoldable pub items_at : List ℕ → ℕ → ℕ → List ℕ
items_at s at zero = []
items_at s at (suc k) = le2 s at ∷ items_at s (at + 2) k

-- the numbers at the front of a list, as many as were asked for and there is room for; behind them what was there
abbrev pub items_copied : List ℕ → ℕ → ℕ → List ℕ → List ℕ
items_copied s at count old = let n = min count (length old) in items_at s at n ++ drop n old
