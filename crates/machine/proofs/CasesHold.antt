-- Every row of the table of cases holds of the machine: one computed test, and one theorem over the table.
use Rattle.std.specs.Prelude.{◌≡◌, refl, ℕ, List, [], ◌∷◌, map, get_or}
use Rattle.std.proofs.Common.{sym, ap, ◌∙◌}
use Rattle.std.proofs.Math.ListN.{get_or-map}
use Rattle.machine.specs.Cases.{Case, Seen, answered, turn_event, turn_answer, same_store, seen, expected, cases}
use Rattle.machine.specs.Computes.{computes}
use Rattle.asyncio.specs.Layout.{value_numbers}
use Rattle.machine.specs.Answers.{says, error_numbers, how_numbers, control_numbers, place_numbers, places_numbers, shown_numbers, answer_numbers}

-- every row of this table
pub all_rows : map seen cases ≡ map expected cases
unfolding computes cases seen expected same_store turn_event turn_answer
all_rows = refl

unfoldable pub no_row : Case
no_row = answered []

no_row_holds : seen no_row ≡ expected no_row
unfolding no_row computes seen expected
no_row_holds = refl

-- Row k of a table that was computed.
pub rows_hold : (cs : List Case) → map seen cs ≡ map expected cs → (k : ℕ) → seen (get_or cs k no_row) ≡ expected (get_or cs k no_row)
rows_hold cs e k = sym (get_or-map seen cs k no_row) ∙ (rw (e, no_row_holds) (get_or-map expected cs k no_row))

-- Row k of the table.
pub cases_hold : (k : ℕ) → seen (get_or cases k no_row) ≡ expected (get_or cases k no_row)
cases_hold k = rows_hold cases all_rows k

-- The ten lines of the worked example as document 01's numbers: word and values, in the order of the driver's line.
example-expected : map answer_numbers (expected (get_or cases 0 no_row)).answers ≡
    says 1 (0 ∷ []) ∷ says 2 (0 ∷ []) ∷ says 1 (1 ∷ []) ∷ says 1 (2 ∷ []) ∷ says 3 (1 ∷ 0 ∷ 0 ∷ 7 ∷ 1 ∷ []) ∷ says 4 (1 ∷ 0 ∷ []) ∷ says 5 [] ∷
    says 3 (0 ∷ 1 ∷ 1 ∷ 2 ∷ []) ∷ says 10 (2 ∷ 2 ∷ 3 ∷ 1 ∷ 0 ∷ 40 ∷ 1 ∷ 0 ∷ 5 ∷ 1 ∷ 0 ∷ 40 ∷ []) ∷ says 7 (0 ∷ 0 ∷ 9 ∷ []) ∷ []
unfolding cases expected turn_answer no_row value_numbers error_numbers how_numbers control_numbers place_numbers places_numbers shown_numbers answer_numbers
example-expected = refl

pub example_numbers : map answer_numbers (seen (get_or cases 0 no_row)).answers ≡
    says 1 (0 ∷ []) ∷ says 2 (0 ∷ []) ∷ says 1 (1 ∷ []) ∷ says 1 (2 ∷ []) ∷ says 3 (1 ∷ 0 ∷ 0 ∷ 7 ∷ 1 ∷ []) ∷ says 4 (1 ∷ 0 ∷ []) ∷ says 5 [] ∷
    says 3 (0 ∷ 1 ∷ 1 ∷ 2 ∷ []) ∷ says 10 (2 ∷ 2 ∷ 3 ∷ 1 ∷ 0 ∷ 40 ∷ 1 ∷ 0 ∷ 5 ∷ 1 ∷ 0 ∷ 40 ∷ []) ∷ says 7 (0 ∷ 0 ∷ 9 ∷ []) ∷ []
example_numbers = ap (λ (x : Seen). map answer_numbers x.answers) (cases_hold 0) ∙ example-expected
