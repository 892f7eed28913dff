-- The contracts of the entries over task records.
use Rattle.std.specs.Prelude.{◌≡◌, List, ℕ}
use denote.Triple.Both.{Both}
use denote.MutBor.{MutBor}
use Rattle.queue.specs.declared.ReadyQueue.{ReadyQueue}
use Rattle.machine.specs.Machine as machine
use Rattle.machine.specs.Answers.{answer_numbers}
use Rattle.machine.specs.Lent.{read_as}
use Rattle.contract.specs.Contract.{Words, kept, Slice}
use Rattle.exec_switch.specs.Answer.{answer_of}
use Rattle.exec_switch.specs.declared.answer.Answer.{Answer}
use Rattle.exec_switch.specs.declared.answer.Stepped.{Stepped}
use Rattle.step_event.specs.declared.Answered.{Answered}
use Rattle.records_tasks.specs.declared.TaskRecord.{TaskRecord}
use Rattle.records_session.specs.Records.{Records, RecordsLent, records_step, records_begin, records_read}

-- a lent slice of records
abbrev pub TaskSlice : Type 0
TaskSlice = Both (MutBor (List TaskRecord)) (MutBor (List TaskRecord))

-- the memory before the call
abbrev pub memory_before : TaskSlice → Slice → Slice → ReadyQueue → Records
memory_before tasks objects places queue = record { tasks = tasks.entry.now; objects = objects.entry.now; places = places.entry.now; queue = queue }

-- the memory after the call
abbrev pub memory_after : TaskSlice → Slice → Slice → ReadyQueue → Records
memory_after tasks objects places queue = record { tasks = tasks.exit.now; objects = objects.exit.now; places = places.exit.now; queue = queue }

-- the memory, the list of calls, the answer, and how many calls a wait wrote
abbrev pub records_of : Records → List ℕ → Answer → ℕ → RecordsLent
records_of m cs a n =
    let x : machine.Answer = answer_of m.objects a in
    record { memory = m; list = cs; answer = x; numbers = answer_numbers x; count = n }

-- The call is the event e on lent records: its answer with document 01's numbers and the count of a wait's calls, the records, the slices, the queue and
-- the list of calls are those of `records_step`, refused or not.
abbrev pub RecordsStep : TaskSlice → Slice → Slice → Slice → ReadyQueue → machine.Event → Answered → Type 0
RecordsStep tasks objects places calls queue e r =
    records_of (memory_after tasks objects places r.queue) calls.exit.now r.answer r.calls
    ≡ records_step (memory_before tasks objects places queue) calls.entry.now e

-- The call is the beginning of a session on lent records: its answer with document 01's numbers, the records, the slices and the queue are those of
-- `records_begin`, refused or not.
abbrev pub RecordsBegin : TaskSlice → Slice → Slice → ReadyQueue → Stepped → Type 0
RecordsBegin tasks objects places queue r =
    (memory_after tasks objects places r.queue, read_as (answer_of objects.exit.now r.answer))
    ≡ records_begin (memory_before tasks objects places queue)

-- The call is a read e of lent records: its answer, with document 01's numbers, is that of `records_read`.
abbrev pub RecordsRead : List TaskRecord → Words → Words → ReadyQueue → machine.Event → machine.Answer → Type 0
RecordsRead tasks objects places queue e a = read_as a ≡ read_as (records_read (memory_before (kept tasks) (kept objects) (kept places) queue) e)
