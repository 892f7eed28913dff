-- Stores that are sound and stores that are not, as a table; one computed test proves all rows. Each is a session with one thing written. (The
-- machine's `SoundCases` has the sessions.)
use Rattle.std.specs.Prelude.{◌≡◌, refl, ℕ, suc, Bool, true, false, List, [], ◌∷◌, map, set}
use Rattle.asyncio.specs.declared.Value.{Value}
use Rattle.std.specs.Prelude.{None, Some}
use Rattle.asyncio.specs.declared.TaskState.{TaskState}
use Rattle.asyncio.specs.declared.Task.{Task}
use Rattle.asyncio.specs.declared.Awaiter.{Awaiter}
use Rattle.asyncio.specs.declared.CoroutineState.{CoroutineState}
use Rattle.asyncio.specs.declared.ExternalFutureState.{ExternalFutureState}
use Rattle.asyncio.specs.declared.GatherState.{GatherState}
use Rattle.asyncio.specs.declared.Object.{Object}
use Rattle.asyncio.specs.declared.Place.{Place}
use Rattle.asyncio.specs.declared.Moment.{Moment}
use Rattle.asyncio.specs.declared.HeapId.{HeapId}
use Rattle.asyncio.specs.declared.TaskId.{TaskId}
use Rattle.asyncio.specs.declared.CallId.{CallId}
use Rattle.asyncio.specs.Numbers.{heap_id, task_id, call_id}
use Rattle.queue.specs.declared.ReadyQueue.{ReadyQueue}
use Rattle.queue.specs.Queue.{push_back}
use Rattle.machine.specs.Store.{Store, fresh, put_task, put_object, put_place, put_queue, set_state, set_next}
use Rattle.machine.specs.Sound.{sound}
use Rattle.machine.specs.Computes.{computes}
use Rattle.machine.proofs.SoundCases.{started, woken}

-- the same but for the queue's count
unfoldable pub with_count : Store → ℕ → Store
with_count s n = put_queue s (record { ids = s.queue.ids; len = n })

-- a task
abbrev a_task : TaskState → Awaiter → ℕ → Task
a_task x a c = record { state = x; awaiter = a; coroutine = heap_id c }

-- the slot of gather g for source o
abbrev slot_of : ℕ → ℕ → Awaiter
slot_of g o = Awaiter.GatherSlot (heap_id g) (heap_id o)

-- what is said of the stores, row by row
unfoldable pub more_stores : List Store
more_stores =
    -- rows at or past the counts are not in use: they may hold anything
    put_task fresh 5 (a_task TaskState.Running (slot_of 9 9) 9) ∷
    put_object fresh 3 (Object.GatherFuture 7 30 (GatherState.Awaited (Awaiter.Task (task_id 9)) 5)) ∷
    put_place fresh 100 (record { item = heap_id 9; result = Some (Value.List (heap_id 9)) }) ∷
    -- the words behind the queue's count are free
    put_queue fresh (record { ids = set fresh.queue.ids 0 9; len = 0 }) ∷
    -- not sound: an unknown tag; a word that is not in use and not 0
    record { tasks = set fresh.tasks 0 6; objects = fresh.objects; places = fresh.places; queue = fresh.queue; log = [] } ∷
    record { tasks = set fresh.tasks 7 1; objects = fresh.objects; places = fresh.places; queue = fresh.queue; log = [] } ∷
    -- a count above 513
    with_count fresh 514 ∷
    -- X1: main, ready, spawned and not yet run
    set_state woken 0 TaskState.Unstarted ∷
    -- X2: a live spawned task that names no coroutine
    put_task started 1 (a_task TaskState.Running (slot_of 3 2) 2) ∷
    -- X3: main with a coroutine, main with an awaiter
    put_task woken 0 (a_task (TaskState.Woken (Value.Plain 5)) Awaiter.Nobody 1) ∷
    put_task started 0 (a_task (TaskState.Blocked (heap_id 3)) (slot_of 3 0) 0) ∷
    -- X4: a queued task that is not below the next number
    put_queue (put_task fresh 1 (a_task TaskState.Unstarted (slot_of 0 0) 0)) (push_back fresh.queue 1) ∷
    -- a bit of the open word at or above the count; a gather's places that start elsewhere
    put_object started 3 (Object.GatherFuture 0 3 (GatherState.Awaited (Awaiter.Task (task_id 0)) 15)) ∷
    put_object started 3 (Object.GatherFuture 1 3 (GatherState.Awaited (Awaiter.Task (task_id 0)) 7)) ∷
    -- a call that was not handed out
    put_object started 2 (Object.ExternalFuture (call_id 1) (ExternalFutureState.Pending (slot_of 3 2) None)) ∷
    -- more tasks than places
    set_next started 5 ∷
    -- an item that is not lower than its gather; a list of a gather not completed
    put_place started 0 (record { item = heap_id 3; result = None }) ∷
    set_state woken 0 (TaskState.Woken (Value.List (heap_id 0))) ∷
    -- a queue entry twice; one that runs
    put_queue started (push_back started.queue 2) ∷
    put_queue started (push_back started.queue 1) ∷
    -- two live tasks for one coroutine
    put_task started 2 (a_task TaskState.Unstarted (slot_of 3 0) 0) ∷
    -- a blocked task that nothing wakes
    set_state started 0 (TaskState.Blocked (heap_id 2)) ∷
    -- an awaited gather with no open place, one with a place neither open nor filled
    put_object started 3 (Object.GatherFuture 0 3 (GatherState.Awaited (Awaiter.Task (task_id 0)) 0)) ∷
    put_object started 3 (Object.GatherFuture 0 3 (GatherState.Awaited (Awaiter.Task (task_id 0)) 6)) ∷
    -- a slot of another source
    put_task started 1 (a_task TaskState.Running (slot_of 3 1) 0) ∷
    -- no task runs in running
    set_state started 1 TaskState.Absent ∷
    []

-- is each sound?
unfoldable pub more_verdicts : List Bool
more_verdicts =
    true ∷ true ∷ true ∷ true ∷ false ∷ false ∷ false ∷ false ∷ false ∷ false ∷ false ∷ false ∷ false ∷ false ∷ false ∷ false ∷ false ∷ false ∷
    false ∷ false ∷ false ∷ false ∷ false ∷ false ∷ false ∷ false ∷ []

-- Every row of the table holds of the test.
pub more_sound_cases : map sound more_stores ≡ more_verdicts
unfolding computes started woken with_count more_stores more_verdicts
more_sound_cases = refl
