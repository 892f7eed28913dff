-- What the code has after a record, and what it asks of one.
use Rattle.std.specs.Prelude.{None, Some, Ok, Err}
use Rattle.std.specs.Prelude.{◌≡◌, Bool, List, ℕ, ◌+◌, ◌*◌, ◌≤◌, ◌<◌, length}
use Rattle.asyncio.specs.Limits.{u32_limit}
use Rattle.queue.specs.declared.ReadyQueue.{ReadyQueue}
use Rattle.machine.specs.Store.{Store, LogEntry, store_of}
use Rattle.machine.specs.Machine as machine
use Rattle.drive_reader.specs.declared.Record.{Record}
use Rattle.drive_reader.specs.Parsed.{Parsed}
use Rattle.drive_reader.specs.Format.{parse}
use Rattle.contract.specs.Contract.{Words, Slice, before}
use Rattle.drive_text.specs.Out.{Out, out_of, Wrote}
use Rattle.drive_lines.specs.Lines.{line_limit}
use Rattle.drive_answer.specs.Driver.{Asked, Drives, answered, drive_one}
use Rattle.drive_answer.specs.declared.answered.Driven.{Driven}

-- What the code has is x: the three slices and the queue are x's store (the log, which the code has not, is x's own), then the call list,
-- the place of the next record and whether it is to be read; and from `before` to `after` the bytes of x were written, at most 8,192.
pub record Drove (ts os ps : List ℕ) (q : ReadyQueue) (cs : List ℕ) (next : ℕ) (going : Bool) (before after : Out) (x : Drives) : Type 0 where
  pub store_is : store_of ts os ps q x.store.log ≡ x.store
  pub list_is : cs ≡ x.list
  pub next_is : next ≡ x.next
  pub going_is : going ≡ x.going
  pub wrote : Wrote line_limit before after x.text

-- The call leaves and writes what f says of the store and of the call list before it.
abbrev pub Writes : Slice → Slice → Slice → Slice → ReadyQueue → Slice → ℕ → (Store → List ℕ → Drives) → Driven → Type 0
Writes tasks objects places calls queue out at f r =
    (l : List LogEntry)
    → Drove tasks.exit.now objects.exit.now places.exit.now r.queue calls.exit.now r.next r.going (out_of out.entry.now at)
    (out_of out.exit.now r.at) (f (before tasks objects places queue l) calls.entry.now)

-- The call answers what is asked, and writes its line.
abbrev pub WritesAnswer : Slice → Slice → Slice → Slice → ReadyQueue → Slice → ℕ → ℕ → ℕ → Asked → Driven → Type 0
WritesAnswer tasks objects places calls queue out at next number a r = Writes tasks objects places calls queue out at (λ s cs. answered s cs next number a) r

-- The call is an event, and writes its line.
abbrev pub WritesEvent : Slice → Slice → Slice → Slice → ReadyQueue → Slice → ℕ → ℕ → ℕ → machine.Event → Driven → Type 0
WritesEvent tasks objects places calls queue out at next number e r = WritesAnswer tasks objects places calls queue out at next number (Asked.event e) r

-- the results of a record stand within the input
abbrev pub InInput : List ℕ → Record → Type 0
InInput src (Record.Coroutine f) = Unit {0}
InInput src Record.Call = Unit {0}
InInput src (Record.Pending c x) = Unit {0}
InInput src (Record.Settled v) = Unit {0}
InInput src (Record.Gather first count) = Unit {0}
InInput src (Record.Await o) = Unit {0}
InInput src (Record.Complete v) = Unit {0}
InInput src (Record.Fail n) = Unit {0}
InInput src (Record.Results first count) = first + count * 14 ≤ length src
InInput src Record.Resume = Unit {0}
InInput src (Record.Cancel t) = Unit {0}
InInput src (Record.Show o) = Unit {0}
InInput src Record.Eager = Unit {0}

-- the numbers that a record stores whole fit 32 bits
abbrev pub RecordFits : Record → Type 0
RecordFits (Record.Coroutine f) = f < u32_limit
RecordFits Record.Call = Unit {0}
RecordFits (Record.Pending c x) = Unit {0}
RecordFits (Record.Settled v) = Unit {0}
RecordFits (Record.Gather first count) = Unit {0}
RecordFits (Record.Await o) = Unit {0}
RecordFits (Record.Complete v) = Unit {0}
RecordFits (Record.Fail n) = n < u32_limit
RecordFits (Record.Results first count) = Unit {0}
RecordFits Record.Resume = Unit {0}
RecordFits (Record.Cancel t) = Unit {0}
RecordFits (Record.Show o) = Unit {0}
RecordFits Record.Eager = Unit {0}

-- those of the record that was read, if there is one
abbrev pub ParsedFits : Parsed → Type 0
ParsedFits (Ok None) = Unit {0}
ParsedFits (Ok (Some f)) = RecordFits f.what
ParsedFits (Err e) = Unit {0}

-- The call reads the record at a place of the input, answers it and writes its line; the numbers that it stores whole fit.
abbrev pub DrivesRecord : Slice → Slice → Slice → Slice → ReadyQueue → Words → ℕ → Slice → ℕ → ℕ → Driven → Type 0
DrivesRecord tasks objects places calls queue src from out at number r =
    Writes tasks objects places calls queue out at (λ s cs. drive_one s cs src from number) r × ParsedFits (parse src from)
