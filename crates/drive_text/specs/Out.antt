-- Bytes written one after the other into a lent buffer, from a place on.
use Rattle.std.specs.Prelude.{◌≡◌, List, [], ◌∷◌, ℕ, ◌+◌, ◌≤◌, ltb, length, set}
use Rattle.asyncio.specs.States.{pick}

-- A buffer, and the place of the next byte.
pub record Out : Type 0 where
  pub bytes : List ℕ
  pub at : ℕ

-- a buffer and a place
abbrev pub out_of : List ℕ → ℕ → Out
out_of bs i = record { bytes = bs; at = i }

-- one byte at the place, which moves on; where the buffer ends nothing changes
unfoldable pub emit1 : Out → ℕ → Out
emit1 o b = pick (ltb o.at (length o.bytes)) (out_of (set o.bytes o.at b) (o.at + 1)) o

-- bytes one after the other
unfoldable pub emit : Out → List ℕ → Out
emit o [] = o
emit o (b ∷ bs) = emit (emit1 o b) bs

-- What a writing function does: from x to y these bytes were written, and they are at most k.
pub record Wrote (k : ℕ) (x y : Out) (bs : List ℕ) : Type 0 where
  pub emitted : y ≡ emit x bs
  pub short : length bs ≤ k
