-- Canonical rows: their words are those of what they are read as, so that each tag is a known one, each number is in its range and a
-- word that means nothing is 0. Refusal 2 asks this of the rows in use.
use Rattle.std.specs.Prelude.{Bool, true, false, List, [], ◌∷◌, ℕ, eqb}
use Rattle.asyncio.specs.States.{pick}
use Rattle.rows.specs.Rows.{row_from, Codec, read_at}
use Rattle.rows.specs.Tables.{task_codec, object_codec, place_codec, header_codec, task_start, object_start, place_start}

unfoldable pub same_words : List ℕ → List ℕ → Bool
same_words [] [] = true
same_words [] (y ∷ ys) = false
same_words (x ∷ xs) [] = false
same_words (x ∷ xs) (y ∷ ys) = pick (eqb x y) (same_words xs ys) false

module _ {R : Type 0} (C : Codec R) where
  -- the row at b
  abbrev pub canonical_at : List ℕ → ℕ → Bool
  canonical_at w b = same_words (C.words (read_at C w b)) (row_from w b 0 C.width)

unfoldable pub task_canonical : List ℕ → ℕ → Bool
task_canonical w t = canonical_at task_codec w (task_start t)

unfoldable pub object_canonical : List ℕ → ℕ → Bool
object_canonical w o = canonical_at object_codec w (object_start o)

unfoldable pub place_canonical : List ℕ → ℕ → Bool
place_canonical w p = canonical_at place_codec w (place_start p)

unfoldable pub header_canonical : List ℕ → Bool
header_canonical w = canonical_at header_codec w 0
