-- Tests on numbers, awaiters and the states of tasks.
use Rattle.std.specs.Prelude.{Bool, true, false, eqb}
use Rattle.asyncio.specs.declared.TaskId.{TaskId}
use Rattle.asyncio.specs.declared.Awaiter.{Awaiter}
use Rattle.asyncio.specs.declared.TaskState.{TaskState}

-- one of two, by a test
abbrev pub pick : {A : Type 0} → Bool → A → A → A
pick true a b = a
pick false a b = b

abbrev pub is_main : TaskId → Bool
is_main t = eqb t.0 0

abbrev pub is_nobody : Awaiter → Bool
is_nobody Awaiter.Nobody = true
is_nobody (Awaiter.Task t) = false
is_nobody (Awaiter.GatherSlot g o) = false

-- main or spawned, not ended and not removed
abbrev pub is_live : TaskState → Bool
is_live TaskState.Absent = false
is_live TaskState.Unstarted = true
is_live TaskState.Running = true
is_live (TaskState.Woken v) = true
is_live (TaskState.Raised e) = true
is_live (TaskState.Blocked o) = true

-- spawned, not yet run
abbrev pub is_unstarted : TaskState → Bool
is_unstarted TaskState.Absent = false
is_unstarted TaskState.Unstarted = true
is_unstarted TaskState.Running = false
is_unstarted (TaskState.Woken v) = false
is_unstarted (TaskState.Raised e) = false
is_unstarted (TaskState.Blocked o) = false

-- live, and neither running nor blocked: it may stand in the queue
abbrev pub is_ready : TaskState → Bool
is_ready TaskState.Absent = false
is_ready TaskState.Unstarted = true
is_ready TaskState.Running = false
is_ready (TaskState.Woken v) = true
is_ready (TaskState.Raised e) = true
is_ready (TaskState.Blocked o) = false

abbrev pub is_running : TaskState → Bool
is_running TaskState.Absent = false
is_running TaskState.Unstarted = false
is_running TaskState.Running = true
is_running (TaskState.Woken v) = false
is_running (TaskState.Raised e) = false
is_running (TaskState.Blocked o) = false

abbrev pub is_blocked : TaskState → Bool
is_blocked TaskState.Absent = false
is_blocked TaskState.Unstarted = false
is_blocked TaskState.Running = false
is_blocked (TaskState.Woken v) = false
is_blocked (TaskState.Raised e) = false
is_blocked (TaskState.Blocked o) = true
