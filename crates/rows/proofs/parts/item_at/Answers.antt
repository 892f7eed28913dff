use native.Mathlib.Nat.{add-zero}
use Rattle.rows.specs.Tables.{place_at}
use Rattle.rows.proofs.parts.item_at.Goals as goal

pub returns : goal.returns
unfolding place_at
returns c = rw (c.from_word.ensures, add-zero)
