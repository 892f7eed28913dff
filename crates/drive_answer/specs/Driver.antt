-- Document 01's driver: one record to one line ("The driver").
use Rattle.std.specs.Prelude.{None, Some, Ok, Err}
use Rattle.std.specs.Prelude.{ℕ, ◌*◌, Bool, true, false, List, [], take, drop}
use Rattle.machine.specs.Store.{Store}
use Rattle.machine.specs.Events.{Result}
use Rattle.machine.specs.Machine.{Event, Answer}
use Rattle.machine.specs.Lent.{Lent, lent_step, lent_read}
use Rattle.drive_reader.specs.declared.Record.{Record}
use Rattle.drive_reader.specs.Parsed.{Parsed}
use Rattle.drive_reader.specs.Format.{parse}
use Rattle.drive_reader.specs.Items.{items_at}
use Rattle.exec_futures.specs.Results.{results_in}
use Rattle.drive_lines.specs.Lines.{line}

-- What a record asks of the machine.
pub data Asked : Type 0 where
  -- kinds 1 to 11
  event : Event → Asked
  -- show and eager, which change nothing
  read : Event → Asked

-- results stand in the input, 14 bytes each
abbrev pub results_at : List ℕ → ℕ → ℕ → List Result
results_at src first count = results_in (take (count * 14) (drop first src))

-- What a record asks. A gather's items are numbers of two bytes, and stand in the input too.
unfoldable pub asked : List ℕ → Record → Asked
asked src (Record.Coroutine f) = Asked.event (Event.coroutine f)
asked src Record.Call = Asked.event Event.call
asked src (Record.Pending c x) = Asked.event (Event.pending c x)
asked src (Record.Settled v) = Asked.event (Event.settled v)
asked src (Record.Gather first count) = Asked.event (Event.gather (items_at src first count))
asked src (Record.Await o) = Asked.event (Event.await o)
asked src (Record.Complete v) = Asked.event (Event.complete v)
asked src (Record.Fail n) = Asked.event (Event.fail n)
asked src (Record.Results first count) = Asked.event (Event.results (results_at src first count))
asked src Record.Resume = Asked.event Event.resume
asked src (Record.Cancel t) = Asked.event (Event.cancel t)
asked src (Record.Show o) = Asked.read (Event.show o)
asked src Record.Eager = Asked.read Event.eager

-- The store and the call list after a record, the bytes of its line (none at the end of the input), the place of the next record, and
-- whether that is to be read.
pub record Drives : Type 0 where
  pub store : Store
  pub list : List ℕ
  pub text : List ℕ
  pub next : ℕ
  pub going : Bool

-- refusal 11: nothing changes, and no further record is read
unfoldable pub refused_11 : Store → List ℕ → ℕ → ℕ → Drives
refused_11 s l next number = record { store = s; list = l; text = line number (Answer.refused 11); next = next; going = false }

-- What is asked, answered by the library, and its line; `next` is the place behind the record.
unfoldable pub answered : Store → List ℕ → ℕ → ℕ → Asked → Drives
answered s l next number (Asked.event e) =
    let x : Lent = lent_step s l e in
    record { store = x.store; list = x.list; text = line number x.answer; next = next; going = true }
answered s l next number (Asked.read e) = record { store = s; list = l; text = line number (lent_read s e).answer; next = next; going = true }

-- by what was read: at the end of the input there is no line; what is no record is refused
unfoldable pub drive_by : Store → List ℕ → List ℕ → ℕ → ℕ → Parsed → Drives
drive_by s l src from number (Ok None) = record { store = s; list = l; text = []; next = from; going = false }
drive_by s l src from number (Ok (Some f)) = answered s l f.next number (asked src f.what)
drive_by s l src from number (Err e) = refused_11 s l from number

-- The record at a place: the store, the call list, the input's bytes, the place, and the record's number.
unfoldable pub drive_one : Store → List ℕ → List ℕ → ℕ → ℕ → Drives
drive_one s l src from number = drive_by s l src from number (parse src from)
