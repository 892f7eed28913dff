-- How many places a line shows, and what the writers of a read's line say.
use Rattle.std.specs.Prelude.{List, ◌++◌, ℕ, ◌+◌, ◌*◌, Ok, Err, length}
use Rattle.step_read.specs.declared.Shown.{Shown}
use Rattle.step_read.specs.Reads.{Reading, places_from, show_answer}
use Rattle.drive_text.specs.Writing.{Puts}
use Rattle.drive_text.specs.Text.{field}
use Rattle.drive_lines.specs.Lines.{places_text, line}
use Rattle.drive_lines.specs.Writes.{LentWriter}

-- how many places are shown
unfoldable pub shown_count : Shown → ℕ
shown_count (Shown.Coroutine x f) = 0
shown_count Shown.ExternalPending = 0
shown_count (Shown.ExternalResolved v) = 0
shown_count (Shown.ExternalFailed e) = 0
shown_count Shown.GatherPending = 0
shown_count (Shown.GatherAwaited f n m) = n
shown_count (Shown.GatherCompleted f n) = n
shown_count (Shown.GatherFailed e) = 0
shown_count Shown.Nothing = 0

-- of a reading
unfoldable pub reading_count : Reading → ℕ
reading_count (Ok x) = shown_count x
reading_count (Err r) = 0

-- a gather: its sort and state, how many places it has, and each place
abbrev pub PutsGather : LentWriter → List ℕ → List ℕ → ℕ → ℕ → ℕ → Type 0
PutsGather out state places first count mask =
    Puts
    (length state + (21 + 27 * count))
    out
    (state ++ (field count ++ places_text (places_from places first mask 0 count)))

-- the line of a read
abbrev pub PutsReading : LentWriter → ℕ → List ℕ → Reading → Type 0
PutsReading out number places reading = Puts (75 + 27 * reading_count reading) out (line number (show_answer places reading))
