-- The worked example of document 01, its 92 bytes to its ten lines, and where the driver stops: each computed.
use Rattle.std.specs.Prelude.{◌≡◌, refl, [], ◌∷◌}
use Rattle.machine.specs.Computes.{computes}
use Rattle.machine.specs.Lent.{slices_right, lengths_right, write_calls, control_calls, answer_calls, written, lent_by, lent_step, lent_read}
use Rattle.drive_reader.specs.Format.{value_at, size, pending_at, contents, parse_kind, parse}
use Rattle.drive_reader.specs.Items.{items_at}
use Rattle.drive_reader.specs.RecordCases.{worked_example}
use Rattle.exec_futures.specs.Results.{results_from, results_in}
use Rattle.drive_text.specs.Text.{bytes_of, digits, decimal, field, fields}
use Rattle.drive_lines.specs.Lines.{value_text, error_text, how_text, control_text, state_text, place_text, places_text, shown_text, yes_no, answer_text, line}
use Rattle.drive_answer.specs.Driver.{asked, refused_11, answered, drive_by, drive_one}
use Rattle.drive_record.specs.Drive.{drive_from, drive_rest, drive}

-- whoever unfolds this computes the driver: the machine, the format and the lines
unfoldable runs : Unit {0}
unfolding computes slices_right lengths_right write_calls control_calls answer_calls written lent_by lent_step lent_read value_at size pending_at contents parse_kind parse items_at results_from results_in digits decimal field fields value_text error_text how_text control_text state_text place_text places_text shown_text yes_no answer_text line asked refused_11 answered drive_by drive_one drive_from drive_rest drive
runs = tt

pub example_drives : drive worked_example ≡
    bytes_of
    "1 made 0\n2 call 0\n3 made 1\n4 made 2\n5 runs 1 start 0 7 steps 1\n6 waits 1 0\n7 done\n8 runs 0 value list 2\n9 shows gather completed 3 plain 40 plain 5 plain 40\n10 finished plain 9\n"
unfolding runs worked_example
example_drives = refl

-- Empty input prints nothing.
pub empty_drives : drive [] ≡ []
unfolding runs
empty_drives = refl

-- A call, and half a mark.
pub half_mark_drives : drive (195 ∷ 89 ∷ 2 ∷ 195 ∷ []) ≡ bytes_of "1 call 0\n2 refused 11\n"
unfolding runs
half_mark_drives = refl

-- Kind 14, and a call: nothing is answered after an 11.
pub unknown_kind_drives : drive (195 ∷ 89 ∷ 14 ∷ 195 ∷ 89 ∷ 2 ∷ []) ≡ bytes_of "1 refused 11\n"
unfolding runs
unknown_kind_drives = refl
