-- Document 01's driver over a whole input, with all that it leaves: the session that it is begins, and takes the records one after the other.
use Rattle.std.specs.Prelude.{None, Some, Ok, Err}
use Rattle.std.specs.Prelude.{ℕ, zero, suc, ◌+◌, ◌-◌, List, [], ◌∷◌, ◌++◌, ltb, length}
use Rattle.asyncio.specs.States.{pick}
use Rattle.machine.specs.Store.{Store, fresh}
use Rattle.machine.specs.Machine.{Event}
use Rattle.machine.specs.Lent.{lengths_right}
use Rattle.machine.specs.Sessions.{Sent}
use Rattle.drive_reader.specs.Parsed.{Parsed}
use Rattle.drive_reader.specs.Format.{parse}
use Rattle.drive_reader.specs.RecordNumbers.{parse_refusal}
use Rattle.drive_answer.specs.Driver.{Asked, asked, Drives, drive_one}

-- What the driver leaves of an input: what ended it (document 01's number: 0 no byte was left, 11 no record, 1 a length, and nothing was done), the store and
-- the call list, all its lines, the place where it stopped, and the events of its records in order, each with the call list that was lent to it.
pub record DrivesAll : Type 0 where
  pub refusal : ℕ
  pub store : Store
  pub list : List ℕ
  pub text : List ℕ
  pub next : ℕ
  pub sent : List Sent

-- the event that is asked
unfoldable pub event_in : Asked → Event
event_in (Asked.event e) = e
event_in (Asked.read e) = e

-- the event of the record that was read, if one was, with the call list as the last wait left it
unfoldable pub sent_of : List ℕ → List ℕ → Parsed → List Sent
sent_of l src (Ok None) = []
sent_of l src (Err n) = []
sent_of l src (Ok (Some f)) = record { event = event_in (asked src f.what); list = l } ∷ []

-- the driver stops here
unfoldable pub stopped : ℕ → Drives → DrivesAll
stopped n x = record { refusal = n; store = x.store; list = x.list; text = x.text; next = x.next; sent = [] }

-- what the driver does behind records that had these lines and were these events
unfoldable pub behind : List ℕ → List Sent → DrivesAll → DrivesAll
behind ls es y = record { refusal = y.refusal; store = y.store; list = y.list; text = ls ++ y.text; next = y.next; sent = es ++ y.sent }

-- at most k records from a place on
unfoldable pub drive_all_from : ℕ → Store → List ℕ → List ℕ → ℕ → ℕ → DrivesAll
drive_all_from zero s l src from number = record { refusal = 0; store = s; list = l; text = []; next = from; sent = [] }
drive_all_from (suc k) s l src from number =
    let x : Drives = drive_one s l src from number in
    let p : Parsed = parse src from in
    pick x.going (behind x.text (sent_of l src p) (drive_all_from k x.store x.list src x.next (number + 1))) (stopped (parse_refusal p) x)

-- all records from a place on: no more than there are bytes, and the end (`all_goes_on`: the number of records allowed never stops it)
unfoldable pub drive_all_rest : Store → List ℕ → List ℕ → ℕ → ℕ → DrivesAll
drive_all_rest s l src from number = drive_all_from (suc (length src - from)) s l src from number

-- A fresh session with a call list, and the records of an input from number 1 on.
unfoldable pub drive_all : List ℕ → List ℕ → DrivesAll
drive_all l src = drive_all_rest fresh l src 0 1

-- The events of an input's records.
abbrev pub sent_by : List ℕ → List ℕ → List Sent
sent_by src l = (drive_all l src).sent

-- The same on lent memory: all unchanged where a length is wrong.
unfoldable pub lent_session : Store → List ℕ → List ℕ → DrivesAll
lent_session s l src = pick (lengths_right s l) (drive_all l src) (record { refusal = 1; store = s; list = l; text = []; next = 0; sent = [] })

-- what ends the records at a place, where the driver stops: no byte is left, or no record stands there
abbrev pub stop_refusal : ℕ → ℕ → ℕ
stop_refusal n next = pick (ltb next n) 11 0
