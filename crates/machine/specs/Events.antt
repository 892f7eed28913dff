-- What a running task and the host do (async_exec.rs): making, await, complete, fail, results, resume, cancel.
-- Each definition here is of an event that no refusal meets.
use Rattle.std.specs.Prelude.{ℕ, zero, suc, ◌+◌, ◌-◌, Bool, true, false, List, [], ◌∷◌, length, eqb}
use Rattle.std.proofs.Math.Option.{Option, none, some}
use Rattle.asyncio.specs.declared.HeapId.{HeapId}
use Rattle.asyncio.specs.declared.CallId.{CallId}
use Rattle.asyncio.specs.declared.TaskId.{TaskId}
use Rattle.asyncio.specs.declared.Value.{Value}
use Rattle.asyncio.specs.declared.Error.{Error}
use Rattle.asyncio.specs.declared.TaskState.{TaskState}
use Rattle.asyncio.specs.declared.Task.{Task}
use Rattle.asyncio.specs.declared.Awaiter.{Awaiter}
use Rattle.asyncio.specs.Options.{OptionValue}
use Rattle.std.specs.Prelude.{None}
use Rattle.asyncio.specs.declared.CoroutineState.{CoroutineState}
use Rattle.asyncio.specs.declared.ExternalFutureState.{ExternalFutureState}
use Rattle.asyncio.specs.declared.GatherState.{GatherState}
use Rattle.asyncio.specs.declared.Object.{Object}
use Rattle.asyncio.specs.declared.Place.{Place}
use Rattle.asyncio.specs.declared.Moment.{Moment}
use Rattle.asyncio.specs.declared.Header.{Header}
use Rattle.asyncio.specs.States.{pick}
use Rattle.asyncio.specs.Numbers.{heap_id, task_id, call_id}
use Rattle.asyncio.specs.Layout.{to_value, to_error}
use Rattle.queue.specs.Queue.{front_of, pop_front, order_from}
use Rattle.machine.specs.Store.{Store, task, object, put_object, put_place, header, put_queue, set_state, set_moment, set_calls, add_object, add_log, blocked, exited}
use Rattle.machine.specs.Scheduler.{pending_call_ids, remove_task, remove_from_ready_queue, live_count}
use Rattle.machine.specs.Delivery.{Delivery, deliver_awaiter_success, deliver_awaiter_failure, resolve_future, fail_future}
use Rattle.machine.specs.Commit.{Poll, ready, raised, pending, Polled, gives, Committed, await_external, commit_gather_tree}

-- How a task goes on: it starts a coroutine with its function, receives a value, raises an error, or runs a coroutine inline.
pub data How : Type 0 where
  start : ℕ → ℕ → How
  value : Value → How
  raises : Error → How
  inline : ℕ → How

-- Who has control: a task, or the host, with the calls that are pending.
pub data Control : Type 0 where
  runs : ℕ → How → Control
  waits : List ℕ → Control

-- The store after a switch, and who has control.
pub record Switched : Type 0 where
  pub store : Store
  pub control : Control

-- ---- switching tasks

-- task t runs
unfoldable pub run : Store → ℕ → How → Switched
run s t h = record { store = set_moment (set_state s t TaskState.Running) (Moment.Running (task_id t)); control = runs t h }

-- the host has control
unfoldable pub yield : Store → Switched
yield s = record { store = set_moment s Moment.Waiting; control = waits (pending_call_ids s) }

-- the function of a coroutine that is new
unfoldable pub new_function : Object → Option ℕ
new_function Object.Unmade = none
new_function (Object.Coroutine f CoroutineState.New) = some f
new_function (Object.Coroutine f CoroutineState.Running) = none
new_function (Object.Coroutine f CoroutineState.Completed) = none
new_function (Object.ExternalFuture c x) = none
new_function (Object.GatherFuture f n x) = none

-- Starting a task, failing it and resuming the next call each other; `activate` is the call that closes the cycle.
module _ (activate : Store → ℕ → Switched) where
  -- the task at the queue's front, or the host
  unfoldable pub resume_next : Store → Switched
  resume_next s = pick (eqb s.queue.len 0) (yield s) (activate (put_queue s (pop_front s.queue)) (front_of s.queue).0)

  -- the task that an exit woke goes ahead of the queue
  unfoldable pub resume_after_task_exit : Delivery → Switched
  resume_after_task_exit d =
      elim d.woken [ none ↦ resume_next d.store | some t ↦ activate (remove_from_ready_queue d.store t) t ]

  -- its awaiter gets the error, and the task goes; its coroutine keeps its state
  unfoldable pub handle_task_failure : Store → ℕ → Error → Switched
  handle_task_failure s t e =
      let d : Delivery = deliver_awaiter_failure s (task s t).awaiter e in
      resume_after_task_exit (record { store = add_log (remove_task d.store t) (exited t); woken = d.woken })

  -- a coroutine that is not new any more fails the task
  unfoldable pub start_by : Store → ℕ → ℕ → Option ℕ → Switched
  start_by s t c none = handle_task_failure s t Error.CoroutineReuse
  start_by s t c (some f) = run (put_object s c (Object.Coroutine f CoroutineState.Running)) t (start c f)

  -- The first run of a task.
  unfoldable pub start_task : Store → ℕ → Switched
  start_task s t = let c : ℕ = (task s t).coroutine.0 in start_by s t c (new_function (object s c))

  -- a ready task runs on with what was delivered; no other is activated
  unfoldable pub activate_state : Store → ℕ → TaskState → Switched
  activate_state s t TaskState.Absent = yield s
  activate_state s t TaskState.Unstarted = start_task s t
  activate_state s t TaskState.Running = yield s
  activate_state s t (TaskState.Woken v) = run s t (value v)
  activate_state s t (TaskState.Raised e) = run s t (raises e)
  activate_state s t (TaskState.Blocked o) = yield s

-- Each failed start leaves one live task less: k is the number of live tasks.
unfoldable pub activate_within : ℕ → Store → ℕ → Switched
activate_within zero s t = yield s
activate_within (suc k) s t = activate_state (λ x u. activate_within k x u) s t (task s t).state

-- Task t runs, or fails at its first run and the next one goes on.
unfoldable pub activate : Store → ℕ → Switched
activate s t = activate_within (live_count s) s t

-- ---- await, by the running task t

-- The store after an await, who has control, and the commit steps.
pub record Awaited : Type 0 where
  pub store : Store
  pub control : Control
  pub steps : ℕ

-- the same task runs on
unfoldable pub stays : Store → ℕ → How → ℕ → Awaited
stays s t h n = record { store = s; control = runs t h; steps = n }

-- a value or an error is the task's own; else it blocks, and another runs
unfoldable pub go_on : ℕ → ℕ → ℕ → Store → Poll → Awaited
go_on t o n s (ready v) = stays s t (value v) n
go_on t o n s (raised e) = stays s t (raises e) n
go_on t o n s pending =
    let x : Switched = resume_next activate (add_log (set_state s t (TaskState.Blocked (heap_id o))) (blocked t)) in
    record { store = x.store; control = x.control; steps = n }

-- a new coroutine runs inline
unfoldable pub await_coroutine : Store → ℕ → ℕ → ℕ → CoroutineState → Awaited
await_coroutine s t o f CoroutineState.New = stays (put_object s o (Object.Coroutine f CoroutineState.Running)) t (inline o) 0
await_coroutine s t o f CoroutineState.Running = stays s t (raises Error.CoroutineReuse) 0
await_coroutine s t o f CoroutineState.Completed = stays s t (raises Error.CoroutineReuse) 0

-- an external is polled, with no commit
unfoldable pub await_external_future : Store → ℕ → ℕ → CallId → ExternalFutureState → Awaited
await_external_future s t o c x =
    let r : Polled = await_external s o c x (Awaiter.Task (task_id t)) in go_on t o 0 r.store r.poll

-- a pending gather is committed
unfoldable pub await_gather : Store → ℕ → ℕ → GatherState → Awaited
await_gather s t o GatherState.Pending =
    let r : Committed = commit_gather_tree s o (Awaiter.Task (task_id t)) in go_on t o r.steps r.store r.poll
await_gather s t o (GatherState.Awaited a m) = stays s t (raises Error.GatherReuse) 0
await_gather s t o GatherState.Completed = stays s t (value (Value.List (heap_id o))) 0
await_gather s t o (GatherState.Failed e) = stays s t (raises e) 0

-- by what the object is (one that is not made is refused before)
unfoldable pub await_object : Store → ℕ → ℕ → Object → Awaited
await_object s t o Object.Unmade = record { store = s; control = waits (pending_call_ids s); steps = 0 }
await_object s t o (Object.Coroutine f x) = await_coroutine s t o f x
await_object s t o (Object.ExternalFuture c x) = await_external_future s t o c x
await_object s t o (Object.GatherFuture f n x) = await_gather s t o x

-- Task t awaits object o.
unfoldable pub exec_get_awaitable : Store → ℕ → ℕ → Awaited
exec_get_awaitable s t o = await_object s t o (object s o)

-- ---- the end of a spawned task

-- completion marks its coroutine completed
unfoldable pub completed : Object → Object
completed Object.Unmade = Object.Unmade
completed (Object.Coroutine f x) = Object.Coroutine f CoroutineState.Completed
completed (Object.ExternalFuture c x) = Object.ExternalFuture c x
completed (Object.GatherFuture f n x) = Object.GatherFuture f n x

-- its coroutine is completed, the task goes, its awaiter gets the value
unfoldable pub handle_task_completion : Store → ℕ → Value → Switched
handle_task_completion s t v =
    let r : Task = task s t in
    let c : ℕ = r.coroutine.0 in
    let left : Store = add_log (remove_task (put_object s c (completed (object s c))) t) (exited t) in
    resume_after_task_exit activate (deliver_awaiter_success left r.awaiter v)

-- ---- results: a call, a kind, a tag and a number

-- One result of a batch, as it was sent.
pub record Result : Type 0 where
  pub call : ℕ
  pub kind : ℕ
  pub tag : ℕ
  pub number : ℕ

-- 0 return, 1 error, 2 still a future, 3 not found, 4 module file
unfoldable pub apply_result : Store → Result → Store
apply_result s r =
    pick (eqb r.kind 0) (resolve_future s r.call (to_value r.tag r.number))
    (pick (eqb r.kind 1) (fail_future s r.call (to_error 0 r.number))
    (pick (eqb r.kind 2) s
    (pick (eqb r.kind 3) (fail_future s r.call Error.NotFound)
    (fail_future s r.call Error.ModuleFile))))

-- one after the other
unfoldable pub apply_future_results : Store → List Result → Store
apply_future_results s [] = s
apply_future_results s (r ∷ rs) = apply_future_results (apply_result s r) rs

-- Document 02, No. 7: s is the store before a batch, u the one that its results leave. In the queue of u the entries that the queue of s did not have, the tasks
-- that the batch woke, come lowest number first, behind the others, which stay as they stood.
unfoldable pub wake_in_order : Store → Store → Store
wake_in_order s u = put_queue u (order_from u.queue s.queue.len)

-- ---- making

-- a new coroutine of a function
unfoldable pub make_coroutine : Store → ℕ → Store
make_coroutine s f = add_object s (Object.Coroutine f CoroutineState.New) 0

-- an external of a call, with no awaiter
unfoldable pub make_pending : Store → ℕ → OptionValue → Store
make_pending s call r = add_object s (Object.ExternalFuture (call_id call) (ExternalFutureState.Pending Awaiter.Nobody r)) 0

-- a settled external hands out a call number too
unfoldable pub make_settled : Store → Value → Store
make_settled s v =
    add_object (set_calls s ((header s).calls + 1))
    (Object.ExternalFuture (call_id (header s).calls) (ExternalFutureState.Resolved v)) 0

-- the items in the places from p on
unfoldable pub put_items : Store → ℕ → List ℕ → Store
put_items s p [] = s
put_items s p (o ∷ os) = put_items (put_place s p (record { item = heap_id o; result = None })) (p + 1) os

-- a gather of the items, not committed
unfoldable pub make_gather : Store → List ℕ → Store
make_gather s os =
    add_object (put_items s (header s).used os)
    (Object.GatherFuture (header s).used (length os) GatherState.Pending) (length os)
