-- Lines of document 01 and of its readings, each computed from its answer: a table with one theorem, and the whole output of the worked
-- example from the machine's own answers.
use Rattle.std.specs.Prelude.{◌≡◌, refl, true, false, List, [], ◌∷◌, map, ℕ, get_or}
use Rattle.std.proofs.Common.{sym, ap, ◌∙◌}
use Rattle.std.proofs.Math.Option.{none, some}
use Prim.Native.String.{String}
use Rattle.std.proofs.Math.ListN.{get_or-map}
use Rattle.asyncio.specs.declared.Value.{Value}
use Rattle.asyncio.specs.declared.Error.{Error}
use Rattle.asyncio.specs.declared.CoroutineState.{CoroutineState}
use Rattle.asyncio.specs.Numbers.{heap_id}
use Rattle.machine.specs.Events.{start, value, raises, inline, runs, waits}
use Rattle.machine.specs.Machine.{Answer, Shown}
use Rattle.machine.specs.Cases.{Seen, seen, expected, turn_answer, cases}
use Rattle.machine.proofs.CasesHold.{no_row, cases_hold}
use Rattle.drive_text.specs.Text.{bytes_of, digits, decimal, field, fields}
use Rattle.drive_lines.specs.Lines.{value_text, error_text, how_text, control_text, state_text, place_text, places_text, shown_text, yes_no, answer_text, line, output}

-- whoever unfolds this computes lines
unfoldable prints : Unit {0}
unfolding digits decimal field fields value_text error_text how_text control_text state_text place_text places_text shown_text yes_no answer_text line output
prints = tt

-- A record's number, its answer, and its line.
pub record Printed : Type 0 where
  pub number : ℕ
  pub answer : Answer
  pub text : String

abbrev row : ℕ → Answer → String → Printed
row n a t = record { number = n; answer = a; text = t }

-- every word, and numbers of 1, 2, 10 and 20 digits
unfoldable pub printed : List Printed
printed =
    row 1 (Answer.made 0) "1 made 0\n" ∷
    row 2 (Answer.called 4294967294) "2 call 4294967294\n" ∷
    row 9 (Answer.control (runs 1 (start 0 7))) "9 runs 1 start 0 7\n" ∷
    row 10 (Answer.control (runs 0 (value (Value.Plain 18446744073709551615)))) "10 runs 0 value plain 18446744073709551615\n" ∷
    row 11 (Answer.awaited (runs 0 (raises (Error.Host 77))) 1) "11 runs 0 raised host 77 steps 1\n" ∷
    row 12 (Answer.awaited (runs 0 (inline 0)) 0) "12 runs 0 inline 0 steps 0\n" ∷
    row 13 (Answer.awaited (waits (0 ∷ [])) 3) "13 waits 1 0 steps 3\n" ∷
    row 14 (Answer.control (waits [])) "14 waits 0\n" ∷
    row 15 (Answer.control (waits (3 ∷ 20 ∷ []))) "15 waits 2 3 20\n" ∷
    row 16 Answer.done "16 done\n" ∷
    row 17 Answer.stalled "17 stalled\n" ∷
    row 18 (Answer.finished (Value.List (heap_id 2))) "18 finished list 2\n" ∷
    row 19 (Answer.finished_error (Error.Script 4)) "19 finished error script 4\n" ∷
    row 20 (Answer.finished_error Error.CoroutineReuse) "20 finished error coroutine-reuse\n" ∷
    row 21 (Answer.control (runs 2 (raises Error.FutureReuse))) "21 runs 2 raised future-reuse\n" ∷
    row 22 (Answer.control (runs 2 (raises Error.GatherReuse))) "22 runs 2 raised gather-reuse\n" ∷
    row 23 (Answer.control (runs 2 (raises Error.NotFound))) "23 runs 2 raised not-found\n" ∷
    row 24 (Answer.control (runs 2 (raises Error.ModuleFile))) "24 runs 2 raised module-file\n" ∷
    row 25 (Answer.is_eager true) "25 eager yes\n" ∷
    row 26 (Answer.is_eager false) "26 eager no\n" ∷
    row 27 (Answer.refused 11) "27 refused 11\n" ∷
    row 28 (Answer.shows (Shown.a_coroutine CoroutineState.New 7)) "28 shows coroutine new 7\n" ∷
    row 29 (Answer.shows (Shown.a_coroutine CoroutineState.Running 7)) "29 shows coroutine running 7\n" ∷
    row 30 (Answer.shows (Shown.a_coroutine CoroutineState.Completed 7)) "30 shows coroutine completed 7\n" ∷
    row 31 (Answer.shows Shown.an_external_pending) "31 shows external pending\n" ∷
    row 32 (Answer.shows (Shown.an_external_resolved (Value.Plain 5))) "32 shows external resolved plain 5\n" ∷
    row 33 (Answer.shows (Shown.an_external_failed (Error.Host 5))) "33 shows external failed host 5\n" ∷
    row 34 (Answer.shows Shown.a_gather_pending) "34 shows gather pending\n" ∷
    row 35 (Answer.shows (Shown.a_gather_awaited (none ∷ some (Value.Plain 5) ∷ []))) "35 shows gather awaited 2 open plain 5\n" ∷
    row 36 (Answer.shows (Shown.a_gather_completed [])) "36 shows gather completed 0\n" ∷
    row 37 (Answer.shows (Shown.a_gather_failed Error.NotFound)) "37 shows gather failed not-found\n" ∷
    row 38 (Answer.cancelled 2) "38 done 2\n" ∷
    []

-- the line of a row, and the bytes of its text
unfoldable pub row_line : Printed → List ℕ
row_line r = line r.number r.answer

unfoldable pub row_text : Printed → List ℕ
row_text r = bytes_of r.text

unfoldable pub no_line : Printed
no_line = row 0 Answer.done "0 done\n"

all_lines : map row_line printed ≡ map row_text printed
unfolding prints printed row_line row_text
all_lines = refl

no_line-prints : row_line no_line ≡ row_text no_line
unfolding prints no_line row_line row_text
no_line-prints = refl

-- Row k of the table.
pub lines_print : (k : ℕ) → row_line (get_or printed k no_line) ≡ row_text (get_or printed k no_line)
lines_print k =
    sym (get_or-map row_line printed k no_line) ∙
    (rw (all_lines, no_line-prints) (get_or-map row_text printed k no_line))

-- ---- the worked example

abbrev example_text : List ℕ
example_text =
    bytes_of
    "1 made 0\n2 call 0\n3 made 1\n4 made 2\n5 runs 1 start 0 7 steps 1\n6 waits 1 0\n7 done\n8 runs 0 value list 2\n9 shows gather completed 3 plain 40 plain 5 plain 40\n10 finished plain 9\n"

example-expected : output 1 (expected (get_or cases 0 no_row)).answers ≡ example_text
unfolding prints cases expected turn_answer no_row
example-expected = refl

-- The machine's answers to the ten records of document 01's example print as document 01's whole output.
pub example-output : output 1 (seen (get_or cases 0 no_row)).answers ≡ example_text
example-output = ap (λ (x : Seen). output 1 x.answers) (cases_hold 0) ∙ example-expected
