-- The scheduler (scheduler.rs): live tasks, the ready queue, spawning and removal.
use Rattle.std.specs.Prelude.{ℕ, zero, suc, ◌+◌, ◌-◌, ◌*◌, ◌/◌, ◌%◌, ◌^◌, Bool, true, false, not, ◌&&◌, List, [], ◌∷◌, eqb, ltb, leb, get_or, set, replicate}
use Rattle.std.proofs.Math.Option.{Option, none, some}
use Rattle.asyncio.specs.declared.HeapId.{HeapId}
use Rattle.asyncio.specs.declared.CallId.{CallId}
use Rattle.asyncio.specs.declared.TaskState.{TaskState}
use Rattle.asyncio.specs.declared.Task.{Task}
use Rattle.asyncio.specs.declared.Awaiter.{Awaiter}
use Rattle.asyncio.specs.Options.{OptionValue}
use Rattle.asyncio.specs.declared.ExternalFutureState.{ExternalFutureState}
use Rattle.asyncio.specs.declared.GatherState.{GatherState}
use Rattle.asyncio.specs.declared.Object.{Object}
use Rattle.asyncio.specs.declared.Place.{Place}
use Rattle.asyncio.specs.declared.Moment.{Moment}
use Rattle.asyncio.specs.declared.Header.{Header}
use Rattle.asyncio.specs.States.{pick}
use Rattle.asyncio.specs.Numbers.{heap_id}
use Rattle.asyncio.specs.States.{is_live}
use Rattle.asyncio.specs.Limits.{task_limit, object_limit}
use Rattle.rows.specs.Rows.{count_rows}
use Rattle.asyncio.specs.Kinds.{kind, is_pending_external}
use Rattle.asyncio.specs.Parts.{call_of}
use Rattle.rows.specs.Tables.{task_codec, task_at, object_at, header_at}
use Rattle.queue.specs.Queue.{empty_queue, push_back, remove}
use Rattle.machine.specs.Store.{Store, task, put_task, object, place, header, put_queue, absent, set_state, set_next, set_moment, add_log, LogEntry, spawned, removed}

-- ---- views of a row

-- what a blocked task waits for
unfoldable pub blocked_on : TaskState → Option ℕ
blocked_on TaskState.Absent = none
blocked_on TaskState.Unstarted = none
blocked_on TaskState.Running = none
blocked_on (TaskState.Woken v) = none
blocked_on (TaskState.Raised e) = none
blocked_on (TaskState.Blocked o) = some o.0

-- is there one?
unfoldable pub is_some : {A : Type 0} → Option A → Bool
is_some none = false
is_some (some a) = true

-- a pending external: its call, its awaiter and its stored result
pub record PendingExternal : Type 0 where
  pub call : CallId
  pub awaiter : Awaiter
  pub stored : OptionValue

-- the object as a pending external, if it is one
unfoldable pub as_pending : Object → Option PendingExternal
as_pending Object.Unmade = none
as_pending (Object.Coroutine f x) = none
as_pending (Object.ExternalFuture c (ExternalFutureState.Pending a r)) = some (record { call = c; awaiter = a; stored = r })
as_pending (Object.ExternalFuture c (ExternalFutureState.Resolved v)) = none
as_pending (Object.ExternalFuture c (ExternalFutureState.Failed e)) = none
as_pending (Object.GatherFuture f n x) = none

-- an awaited gather: its places, its awaiter and its open places
pub record AwaitedGather : Type 0 where
  pub first : ℕ
  pub count : ℕ
  pub awaiter : Awaiter
  pub open_places : ℕ

-- the object as an awaited gather, if it is one
unfoldable pub as_awaited : Object → Option AwaitedGather
as_awaited Object.Unmade = none
as_awaited (Object.Coroutine f x) = none
as_awaited (Object.ExternalFuture c x) = none
as_awaited (Object.GatherFuture f n GatherState.Pending) = none
as_awaited (Object.GatherFuture f n (GatherState.Awaited a m)) = some (record { first = f; count = n; awaiter = a; open_places = m })
as_awaited (Object.GatherFuture f n GatherState.Completed) = none
as_awaited (Object.GatherFuture f n (GatherState.Failed e)) = none

-- bit i of an open word: place i is open
abbrev pub bit : ℕ → ℕ → Bool
bit m i = not (eqb (m / 2 ^ i % 2) 0)

-- ---- the ready queue

-- a task at the queue's back
unfoldable pub push_ready : Store → ℕ → Store
push_ready s t = put_queue s (push_back s.queue t)

-- a task out of the queue, the others in their order
unfoldable pub remove_from_ready_queue : Store → ℕ → Store
remove_from_ready_queue s t = put_queue s (remove s.queue t)

-- a blocked task is given a value or an error and goes to the queue's back
unfoldable pub make_ready : Store → ℕ → TaskState → Store
make_ready s t x = push_ready (set_state s t x) t

-- ---- pending calls

-- the first of the k numbers from i on that passes a test
unfoldable pub first_from : (ℕ → Bool) → ℕ → ℕ → Option ℕ
first_from p i zero = none
first_from p i (suc k) = pick (p i) (some i) (first_from p (i + 1) k)

-- object o is a pending external of that call
unfoldable pub is_call : List ℕ → ℕ → ℕ → Bool
is_call os call o = pick (is_pending_external (kind (object_at os o))) (eqb (call_of (object_at os o)).0 call) false

-- the pending external of a call, by the objects' words
unfoldable pub pending_external_in : List ℕ → ℕ → Option ℕ
pending_external_in os call = first_from (is_call os call) 0 (header_at os).made

-- of a store
unfoldable pub pending_external : Store → ℕ → Option ℕ
pending_external s call = pending_external_in s.objects call

-- a call into an ascending list: the smaller of it and the first comes first
unfoldable pub insert : ℕ → List ℕ → List ℕ
insert c [] = c ∷ []
insert c (d ∷ ds) = pick (leb c d) (c ∷ insert d ds) (d ∷ insert c ds)

-- the calls of the pending externals below n
unfoldable pub calls_below : List ℕ → ℕ → List ℕ
calls_below os zero = []
calls_below os (suc o) =
    pick (is_pending_external (kind (object_at os o))) (insert (call_of (object_at os o)).0 (calls_below os o)) (calls_below os o)

-- the calls of the pending externals, ascending, by the objects' words
unfoldable pub pending_calls_in : List ℕ → List ℕ
pending_calls_in os = calls_below os (header_at os).made

-- of a store
unfoldable pub pending_call_ids : Store → List ℕ
pending_call_ids s = pending_calls_in s.objects

-- ---- tasks

-- a task lives only below the next number: rows from there on are not in use
unfoldable pub live : Store → ℕ → Bool
live s t = pick (ltb t (header s).next) (is_live (task s t).state) false

-- how many rows of tasks live: each failed start makes it one less
unfoldable pub live_in : List ℕ → ℕ
live_in ts = count_rows task_codec (λ r. is_live r.state) task_limit ts

-- of a store
unfoldable pub live_count : Store → ℕ
live_count s = live_in s.tasks

-- does the task of that row live and drive coroutine c?
unfoldable pub is_task_of : ℕ → Task → Bool
is_task_of c r = pick (is_live r.state) (eqb r.coroutine.0 c) false

-- the live spawned task below n of coroutine c, if any, by the tasks' words (coroutine_to_task)
unfoldable pub task_of_in : List ℕ → ℕ → ℕ → Option ℕ
task_of_in ts n c = first_from (λ t. is_task_of c (task_at ts t)) 1 (n - 1)

-- of a store
unfoldable pub task_of : Store → ℕ → Option ℕ
task_of s c = task_of_in s.tasks (header s).next c

-- task t is spawned, ready and not yet run; its result goes to the places of gather g that name coroutine c
unfoldable pub spawn_as : Store → ℕ → ℕ → ℕ → Store
spawn_as s t c g =
    add_log (push_ready (set_next (put_task s t (record { state = TaskState.Unstarted; awaiter = Awaiter.GatherSlot (heap_id g) (heap_id c); coroutine = heap_id c })) (t + 1)) t)
    (spawned t c)

-- by the live task of the coroutine, if it has one (nor is there a task when no number is left: a sound store has one for every place)
unfoldable pub spawn_unless : Store → ℕ → ℕ → Option ℕ → Option Store
spawn_unless s c g (some t) = none
spawn_unless s c g none = pick (ltb (header s).next task_limit) (some (spawn_as s (header s).next c g)) none

-- Nothing if the coroutine already has a live task.
unfoldable pub spawn : Store → ℕ → ℕ → Option Store
spawn s c g = spawn_unless s c g (task_of s c)

-- the task is live no more, and not ready
unfoldable pub remove_task : Store → ℕ → Store
remove_task s t = remove_from_ready_queue (put_task s t absent) t

-- ---- cancel: the task, the live tasks of the open items of what it is blocked on, and so on

-- a task is removed by cancel or cleanup
unfoldable pub cancel_one : Store → ℕ → Store
cancel_one s t = add_log (remove_task s t) (removed t)

-- A walk through awaited gathers: those reached are marked, so that each is walked once; those on the stack are still to be walked.
-- The tasks of coroutines are those of the store in which the walk began, so that the tasks are searched once for the whole walk.
pub record Walk : Type 0 where
  pub store : Store
  pub tasks_of : ℕ → Option ℕ
  pub marks : List Bool
  pub stack : List ℕ

-- an awaited gather that is not marked is marked and stacked
unfoldable pub reach_if : Walk → ℕ → Bool → Walk
reach_if w g true = record { store = w.store; tasks_of = w.tasks_of; marks = set w.marks g true; stack = g ∷ w.stack }
reach_if w g false = w

-- a gather is reached: walked once, if it is awaited
unfoldable pub reach : Walk → ℕ → Walk
reach w g = reach_if w g (is_some (as_awaited (object w.store g)) && not (get_or w.marks g false))

-- a task goes, and what it is blocked on is reached
unfoldable pub remove_blocked : Walk → ℕ → Option ℕ → Walk
remove_blocked w t none = record { store = cancel_one w.store t; tasks_of = w.tasks_of; marks = w.marks; stack = w.stack }
remove_blocked w t (some b) = reach (record { store = cancel_one w.store t; tasks_of = w.tasks_of; marks = w.marks; stack = w.stack }) b

-- the task, if it still lives, by the tasks' words
unfoldable pub still_live : List ℕ → Option ℕ → Option ℕ
still_live ts none = none
still_live ts (some t) = pick (is_live (task_at ts t).state) (some t) none

-- an item with a live task, which goes; an item without, which is reached as a nested gather
unfoldable pub visit_by : Walk → ℕ → Option ℕ → Walk
visit_by w o none = reach w o
visit_by w o (some t) = remove_blocked w t (blocked_on (task w.store t).state)

-- an item
unfoldable pub visit : Walk → ℕ → Walk
visit w o = visit_by w o (still_live w.store.tasks (w.tasks_of o))

-- the item of place p, which is place i of its gather, if it is one of the open places
unfoldable pub visit_place : Walk → ℕ → ℕ → ℕ → Walk
visit_place w p i open_places = pick (bit open_places i) (visit w (place w.store p).item.0) w

-- the items of the open places from i on, k of them
unfoldable pub visit_open : Walk → AwaitedGather → ℕ → ℕ → Walk
visit_open w a i zero = w
visit_open w a i (suc k) = visit_open (visit_place w (a.first + i) i a.open_places) a (i + 1) k

-- the open items of a gather are visited
unfoldable pub walk_gather : Walk → Option AwaitedGather → Walk
walk_gather w none = w
walk_gather w (some a) = visit_open w a 0 a.count

-- one turn: the gather on top of the stack is walked, then `go` on
unfoldable pub walk_next : (Walk → Store) → Walk → List ℕ → Store
walk_next go w [] = w.store
walk_next go w (g ∷ gs) =
    go (walk_gather (record { store = w.store; tasks_of = w.tasks_of; marks = w.marks; stack = gs }) (as_awaited (object w.store g)))

-- Each turn takes one gather off the stack, and each comes there once: fuel is the gathers not marked and those on the stack.
unfoldable pub walk : ℕ → Walk → Store
walk zero w = w.store
walk (suc k) w = walk_next (λ x. walk k x) w w.stack

-- a walk that has reached nothing
unfoldable pub walk_from : Store → Walk
walk_from s = record { store = s; tasks_of = task_of s; marks = replicate object_limit false; stack = [] }

-- task t goes, and the walk begins at what it is blocked on
unfoldable pub cancel_task : Store → ℕ → Store
cancel_task s t = walk object_limit (remove_blocked (walk_from s) t (blocked_on (task s t).state))

-- the live tasks among the k from t on are removed
unfoldable pub remove_from : Store → ℕ → ℕ → Store
remove_from s t zero = s
remove_from s t (suc k) = remove_from (pick (is_live (task s t).state) (add_log (put_task s t absent) (removed t)) s) (t + 1) k

-- the session ends: no task is left, and none is ready
unfoldable pub cleanup : Store → Store
cleanup s = set_moment (put_queue (remove_from s 0 (header s).next) empty_queue) Moment.Ended
