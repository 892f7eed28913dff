-- Every row of the table of records holds of the format: one computed test, and one theorem over the table.
use Rattle.std.specs.Prelude.{◌≡◌, refl, ℕ, [], ◌∷◌, map, get_or}
use Rattle.std.proofs.Common.{sym, ◌∙◌}
use Rattle.std.proofs.Math.ListN.{get_or-map}
use Rattle.drive_reader.specs.Parsed.{at_end}
use Rattle.drive_reader.specs.Format.{value_at, size, pending_at, contents, parse_kind, parse}
use Rattle.drive_reader.specs.Items.{items_at}
use Rattle.drive_reader.specs.RecordCases.{Case, seen, expected, worked_example, cases}

all_rows : map seen cases ≡ map expected cases
unfolding cases seen expected worked_example value_at size pending_at contents parse_kind parse
all_rows = refl

-- behind the table: no bytes, and the end
unfoldable pub no_row : Case
no_row = record { bytes = []; at = 0; reads = at_end }

no_row_holds : seen no_row ≡ expected no_row
unfolding no_row seen expected parse
no_row_holds = refl

-- Row k of the table.
pub cases_hold : (k : ℕ) → seen (get_or cases k no_row) ≡ expected (get_or cases k no_row)
cases_hold k = sym (get_or-map seen cases k no_row) ∙ (rw (all_rows, no_row_holds) (get_or-map expected cases k no_row))

-- the items of the worked example's gather
pub example-items : items_at worked_example 31 3 ≡ 0 ∷ 1 ∷ 0 ∷ []
unfolding worked_example items_at
example-items = refl
