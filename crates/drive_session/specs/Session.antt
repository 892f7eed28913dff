-- The contracts of a whole session.
use Rattle.std.specs.Prelude.{◌≡◌, List, [], ℕ, suc, ◌-◌, ◌*◌, ◌≤◌, length}
use Rattle.asyncio.specs.Limits.{object_limit}
use Rattle.queue.specs.declared.ReadyQueue.{ReadyQueue}
use Rattle.queue.specs.Queue.{empty_queue}
use Rattle.machine.specs.Store.{LogEntry, store_of, fresh}
use Rattle.machine.specs.Sessions.{AllSentInRange}
use Rattle.contract.specs.Contract.{Words, Slice, before}
use Rattle.drive_text.specs.Out.{Out, out_of, Wrote}
use Rattle.drive_lines.specs.Lines.{line_limit}
use Rattle.drive_answer.specs.declared.answered.Driven.{Driven}
use Rattle.drive_session.specs.Fold.{DrivesAll, drive_all, lent_session, stop_refusal}
use Rattle.drive_session.specs.declared.DrivenSession.{DrivenSession}

-- What the code has is x: the three slices and the queue are x's store (the log, which the code has not, is x's own), then the call list, what ended the
-- session, the place of the next record and how many were answered; from `start` to `end` x's lines were written, at most 8,192 bytes each and as many for
-- an 11. The events' numbers are of 32 bits, as the types of a record give it.
pub record DroveAll (ts os ps cs : List ℕ) (r : DrivenSession) (start end : Out) (x : DrivesAll) : Type 0 where
  pub store_is : store_of ts os ps r.queue x.store.log ≡ x.store
  pub list_is : cs ≡ x.list
  pub refusal_is : r.refusal ≡ x.refusal
  pub next_is : r.next ≡ x.next
  pub records_is : r.records ≡ length x.sent
  pub wrote : Wrote (line_limit * suc (length x.sent)) start end x.text
  pub in_range : AllSentInRange x.sent

-- what is returned where the records of an input of so many bytes end, before the record `number`
abbrev pub ended_at : Driven → ℕ → ℕ → DrivenSession
ended_at d bytes number = record { queue = d.queue; refusal = stop_refusal bytes d.next; records = number - 1; next = d.next; at = d.at }

-- The call leaves, returns and writes what x says.
abbrev pub LeavesAll : Slice → Slice → Slice → Slice → Slice → DrivenSession → DrivesAll → Type 0
LeavesAll tasks objects places calls out r x =
    DroveAll tasks.exit.now objects.exit.now places.exit.now calls.exit.now r (out_of out.entry.now 0)
    (out_of out.exit.now r.at) x

-- A session that has just begun, and a list with room for every wait.
abbrev pub Begun : Words → Words → Words → Words → ReadyQueue → Type 0
Begun tasks objects places calls queue = (store_of tasks objects places queue [] ≡ fresh) × (object_limit ≤ length calls)

-- The call takes the records of a fresh session.
abbrev pub DrivesRecords : Slice → Slice → Slice → Slice → Words → Slice → DrivenSession → Type 0
DrivesRecords tasks objects places calls src out r = LeavesAll tasks objects places calls out r (drive_all calls.entry.now src)

-- The call begins a session and takes its records; all is unchanged where a length is wrong. With every log before it.
abbrev pub DrivesSession : Slice → Slice → Slice → Slice → Words → Slice → DrivenSession → Type 0
DrivesSession tasks objects places calls src out r =
    (l : List LogEntry)
    → LeavesAll tasks objects places calls out r (lent_session (before tasks objects places empty_queue l) calls.entry.now src)
