-- A task record, and the task that it stands for.
use Rattle.std.specs.Prelude.{Bool, true, false, not}
use Rattle.asyncio.specs.Limits.{object_limit}
use Rattle.asyncio.specs.Numbers.{heap_id}
use Rattle.asyncio.specs.States.{pick}
use Rattle.asyncio.specs.declared.Awaiter.{Awaiter}
use Rattle.asyncio.specs.Options.{OptionValue}
use Rattle.std.specs.Prelude.{None, Some}
use Rattle.asyncio.specs.declared.Task.{Task}
use Rattle.asyncio.specs.declared.TaskState.{TaskState}
use Rattle.records_tasks.specs.declared.RecordState.{RecordState}
use Rattle.records_tasks.specs.declared.TaskRecord.{TaskRecord}

-- ---- a record of a task

-- the state, without the value delivered
abbrev pub state_in : TaskState → RecordState
state_in TaskState.Absent = RecordState.Absent
state_in TaskState.Unstarted = RecordState.Unstarted
state_in TaskState.Running = RecordState.Running
state_in (TaskState.Woken v) = RecordState.Woken
state_in (TaskState.Raised e) = RecordState.Raised e
state_in (TaskState.Blocked o) = RecordState.Blocked o

-- the value delivered
abbrev pub delivered_in : TaskState → OptionValue
delivered_in TaskState.Absent = None
delivered_in TaskState.Unstarted = None
delivered_in TaskState.Running = None
delivered_in (TaskState.Woken v) = Some v
delivered_in (TaskState.Raised e) = None
delivered_in (TaskState.Blocked o) = None

-- the record of a task
abbrev pub record_of : Task → TaskRecord
record_of t = record { state = state_in t.state; awaiter = t.awaiter; coroutine = t.coroutine; delivered = delivered_in t.state }

-- ---- the task of a record

abbrev pub is_woken : RecordState → Bool
is_woken RecordState.Absent = false
is_woken RecordState.Unstarted = false
is_woken RecordState.Running = false
is_woken RecordState.Woken = true
is_woken (RecordState.Raised e) = false
is_woken (RecordState.Blocked o) = false

-- a state, and a value or none, of one task
abbrev pub fit_together : RecordState → OptionValue → Bool
fit_together s None = not (is_woken s)
fit_together s (Some v) = is_woken s

-- A record fits: a woken task has a value, and every other has none.
abbrev pub fits : TaskRecord → Bool
fits r = fit_together r.state r.delivered

-- woken with a value
abbrev pub woken_with : OptionValue → TaskState
woken_with None = TaskState.Absent
woken_with (Some v) = TaskState.Woken v

-- the state, with the value delivered
abbrev pub state_with : RecordState → OptionValue → TaskState
state_with RecordState.Absent x = TaskState.Absent
state_with RecordState.Unstarted x = TaskState.Unstarted
state_with RecordState.Running x = TaskState.Running
state_with RecordState.Woken x = woken_with x
state_with (RecordState.Raised e) x = TaskState.Raised e
state_with (RecordState.Blocked o) x = TaskState.Blocked o

-- What a record that does not fit stands for: a task that no row in use of a sound store has. Its coroutine's number is out of range, so that its words are
-- not canonical, and the event is refused with 2 by the check that every store gets. So no check of records is needed beside that one.
abbrev pub unfit_task : Task
unfit_task = record { state = TaskState.Absent; awaiter = Awaiter.Nobody; coroutine = heap_id object_limit }

-- The task that a record stands for.
abbrev pub task_of : TaskRecord → Task
task_of r = pick (fits r) (record { state = state_with r.state r.delivered; awaiter = r.awaiter; coroutine = r.coroutine }) unfit_task

-- what stands past the end of a slice of records
abbrev pub no_record : TaskRecord
no_record = record { state = RecordState.Absent; awaiter = Awaiter.Nobody; coroutine = heap_id 0; delivered = None }
