-- A window of the input: of the records from a place on, those that are whole in it, as many as there is room for the lines of.
use Rattle.std.specs.Prelude.{ℕ, zero, suc, ◌+◌, ◌-◌, Bool, true, false, ◌&&◌, ◌||◌, List, [], ◌++◌, leb, ltb, length}
use Rattle.asyncio.specs.States.{pick}
use Rattle.machine.specs.Store.{Store}
use Rattle.drive_reader.specs.Windows.{record_limit}
use Rattle.drive_lines.specs.Lines.{line_limit}
use Rattle.drive_answer.specs.Driver.{Drives, drive_one}

-- the last number that a record can have: it is of 64 bits
abbrev pub last_number : ℕ
last_number = 18446744073709551615

-- Is the record at `from` taken? As many bytes are left as a record can have, or the input has ended with the window; a buffer of `size` bytes has room for its
-- line behind the `at` bytes of the lines before; and there is a number behind its own.
unfoldable pub takes : Bool → ℕ → ℕ → ℕ → ℕ → ℕ → Bool
takes ended bytes from size at number = leb line_limit (size - at) && (ltb number last_number && (ended || leb record_limit (bytes - from)))

-- What a window leaves: the store and the call list, the lines of the records that were taken, the place and the number of the next one, and whether the
-- driver goes on there.
pub record DrivesWindow : Type 0 where
  pub store : Store
  pub list : List ℕ
  pub text : List ℕ
  pub next : ℕ
  pub number : ℕ
  pub going : Bool

-- no more is taken
unfoldable pub stays : Store → List ℕ → ℕ → ℕ → DrivesWindow
stays s l from number = record { store = s; list = l; text = []; next = from; number = number; going = true }

-- the driver stops, at the end of the input or after an 11
unfoldable pub stops : Drives → ℕ → DrivesWindow
stops x number = record { store = x.store; list = x.list; text = x.text; next = x.next; number = number; going = false }

-- what is left behind lines that were written before
unfoldable pub behind : List ℕ → DrivesWindow → DrivesWindow
behind t w = record { store = w.store; list = w.list; text = t ++ w.text; next = w.next; number = w.number; going = w.going }

-- at most k records from a place on
unfoldable pub window_from : ℕ → Bool → ℕ → Store → List ℕ → List ℕ → ℕ → ℕ → ℕ → DrivesWindow
window_from zero ended size s l src from at number = stays s l from number
window_from (suc k) ended size s l src from at number =
    let x : Drives = drive_one s l src from number in
    pick (takes ended (length src) from size at number)
    (pick x.going (behind x.text (window_from k ended size x.store x.list src x.next (at + length x.text) (number + 1))) (stops x number))
    (stays s l from number)

-- all of them: no more than there are bytes, and the end (`window_turn`: the number of records allowed never stops it)
unfoldable pub window_rest : Bool → ℕ → Store → List ℕ → List ℕ → ℕ → ℕ → ℕ → DrivesWindow
window_rest ended size s l src from at number = window_from (suc (length src - from)) ended size s l src from at number

-- The window `src`, taken from a place on, its lines into an empty buffer of `size` bytes.
unfoldable pub drive_window : Bool → ℕ → Store → List ℕ → List ℕ → ℕ → ℕ → DrivesWindow
drive_window ended size s l src from number = window_rest ended size s l src from 0 number
