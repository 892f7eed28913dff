-- The cycle, await and the end of a task (Events) with the Rust's panics in them: where the Rust panics, whatever a panic does stands in the
-- place of the harmless branch; where the machine has no such branch, the test that the Rust makes stands before what the machine does. Each
-- definition has the machine's name for it in its comment, and is that definition but for the panics.
use Rattle.std.specs.Prelude.{ℕ, zero, suc}
use Rattle.asyncio.specs.declared.CallId.{CallId}
use Rattle.asyncio.specs.declared.Value.{Value}
use Rattle.asyncio.specs.declared.TaskState.{TaskState}
use Rattle.asyncio.specs.declared.Task.{Task}
use Rattle.asyncio.specs.declared.Error.{Error}
use Rattle.asyncio.specs.declared.Awaiter.{Awaiter}
use Rattle.asyncio.specs.declared.CoroutineState.{CoroutineState}
use Rattle.asyncio.specs.declared.ExternalFutureState.{ExternalFutureState}
use Rattle.asyncio.specs.declared.GatherState.{GatherState}
use Rattle.asyncio.specs.declared.Object.{Object}
use Rattle.asyncio.specs.Numbers.{heap_id, task_id}
use Rattle.asyncio.specs.States.{pick, is_live, is_running}
use Rattle.machine.specs.Store.{Store, task, object, put_object, set_state, add_log, blocked, exited}
use Rattle.machine.specs.Scheduler.{pending_call_ids, remove_task, live_count}
use Rattle.machine.specs.Delivery.{Delivery}
use Rattle.machine.specs.Commit.{Poll, ready, raised, pending, Polled, Committed, await_external}
use Rattle.machine.specs.Events.{start, value, raises, waits, Switched, run, yield, resume_next, resume_after_task_exit, Awaited, stays, await_coroutine}
use Rattle.machine_theorems.specs.Panics.Panic.{Panics}
use Rattle.machine_theorems.specs.Panics.PanickingDelivery.{success_or_panic, failure_or_panic}
use Rattle.machine_theorems.specs.Panics.PanickingCommit.{commit_or_panic}

module _ (panic : Panics) where
  -- ---- switching tasks

  module _ (act : Store → ℕ → Switched) where
    -- `handle_task_failure`: the task is not main (async_exec.rs:476), and it is there (scheduler.rs:197)
    unfoldable pub fails_or_panic : Store → ℕ → Error → Switched
    fails_or_panic s zero e = panic.switch s zero
    fails_or_panic s (suc t) e =
        let d : Delivery = failure_or_panic panic s (task s (suc t)).awaiter e in
        pick (is_live (task s (suc t)).state)
        (resume_after_task_exit act (record { store = add_log (remove_task d.store (suc t)) (exited (suc t)); woken = d.woken }))
        (panic.switch s (suc t))

    -- `start_by`, of the task's object: it is a coroutine (async_exec.rs:613, 638)
    unfoldable pub start_or_panic : Store → ℕ → ℕ → Object → Switched
    start_or_panic s t c Object.Unmade = panic.switch s t
    start_or_panic s t c (Object.Coroutine f CoroutineState.New) = run (put_object s c (Object.Coroutine f CoroutineState.Running)) t (start c f)
    start_or_panic s t c (Object.Coroutine f CoroutineState.Running) = fails_or_panic s t Error.CoroutineReuse
    start_or_panic s t c (Object.Coroutine f CoroutineState.Completed) = fails_or_panic s t Error.CoroutineReuse
    start_or_panic s t c (Object.ExternalFuture d x) = panic.switch s t
    start_or_panic s t c (Object.GatherFuture f n x) = panic.switch s t

    -- `start_task`: main has no coroutine (async_exec.rs:627)
    unfoldable pub task_or_panic : Store → ℕ → Switched
    task_or_panic s zero = panic.switch s zero
    task_or_panic s (suc t) = let c : ℕ = (task s (suc t)).coroutine.0 in start_or_panic s (suc t) c (object s c)

    -- `activate_state`: a task that is not there (scheduler.rs:197), runs or is blocked (312) is not activated
    unfoldable pub state_or_panic : Store → ℕ → TaskState → Switched
    state_or_panic s t TaskState.Absent = panic.switch s t
    state_or_panic s t TaskState.Unstarted = task_or_panic s t
    state_or_panic s t TaskState.Running = panic.switch s t
    state_or_panic s t (TaskState.Woken v) = run s t (value v)
    state_or_panic s t (TaskState.Raised e) = run s t (raises e)
    state_or_panic s t (TaskState.Blocked o) = panic.switch s t

  -- `activate_within`; the Rust's loop has no fuel: that it ends here is a panic too
  unfoldable pub within_or_panic : ℕ → Store → ℕ → Switched
  within_or_panic zero s t = panic.switch s t
  within_or_panic (suc k) s t = state_or_panic (λ x u. within_or_panic k x u) s t (task s t).state

  -- `activate`
  unfoldable pub activate_or_panic : Store → ℕ → Switched
  activate_or_panic s t = within_or_panic (live_count s) s t

  -- ---- await, by the running task t

  -- `go_on`: the task that blocks is there (scheduler.rs:197), and blocked on nothing (236)
  unfoldable pub go_on_or_panic : ℕ → ℕ → ℕ → Store → Poll → Awaited
  go_on_or_panic t o n s (ready v) = stays s t (value v) n
  go_on_or_panic t o n s (raised e) = stays s t (raises e) n
  go_on_or_panic t o n s pending =
      let x : Switched = resume_next activate_or_panic (add_log (set_state s t (TaskState.Blocked (heap_id o))) (blocked t)) in
      pick (is_running (task s t).state) (record { store = x.store; control = x.control; steps = n }) (panic.awaited s)

  -- `await_external_future`
  unfoldable pub await_external_or_panic : Store → ℕ → ℕ → CallId → ExternalFutureState → Awaited
  await_external_or_panic s t o c x =
      let r : Polled = await_external s o c x (Awaiter.Task (task_id t)) in go_on_or_panic t o 0 r.store r.poll

  -- `await_gather`
  unfoldable pub await_gather_or_panic : Store → ℕ → ℕ → GatherState → Awaited
  await_gather_or_panic s t o GatherState.Pending =
      let r : Committed = commit_or_panic panic s o (Awaiter.Task (task_id t)) in go_on_or_panic t o r.steps r.store r.poll
  await_gather_or_panic s t o (GatherState.Awaited a m) = stays s t (raises Error.GatherReuse) 0
  await_gather_or_panic s t o GatherState.Completed = stays s t (value (Value.List (heap_id o))) 0
  await_gather_or_panic s t o (GatherState.Failed e) = stays s t (raises e) 0

  -- `await_object`
  unfoldable pub await_object_or_panic : Store → ℕ → ℕ → Object → Awaited
  await_object_or_panic s t o Object.Unmade = record { store = s; control = waits (pending_call_ids s); steps = 0 }
  await_object_or_panic s t o (Object.Coroutine f x) = await_coroutine s t o f x
  await_object_or_panic s t o (Object.ExternalFuture c x) = await_external_or_panic s t o c x
  await_object_or_panic s t o (Object.GatherFuture f n x) = await_gather_or_panic s t o x

  -- `exec_get_awaitable`
  unfoldable pub await_or_panic : Store → ℕ → ℕ → Awaited
  await_or_panic s t o = await_object_or_panic s t o (object s o)

  -- ---- the end of a spawned task

  -- `handle_task_completion`, of the task's object: it is a coroutine (async_exec.rs:436)
  unfoldable pub completed_or_panic : Store → ℕ → Value → Object → Switched
  completed_or_panic s t v Object.Unmade = panic.switch s t
  completed_or_panic s t v (Object.Coroutine f x) =
      let r : Task = task s t in
      let c : ℕ = r.coroutine.0 in
      let left : Store = add_log (remove_task (put_object s c (Object.Coroutine f CoroutineState.Completed)) t) (exited t) in
      resume_after_task_exit activate_or_panic (success_or_panic panic left r.awaiter v)
  completed_or_panic s t v (Object.ExternalFuture c x) = panic.switch s t
  completed_or_panic s t v (Object.GatherFuture f n x) = panic.switch s t

  -- `handle_task_completion`: the task has a coroutine, which main has not (async_exec.rs:432), and it is there (scheduler.rs:197)
  unfoldable pub completes_or_panic : Store → ℕ → Value → Switched
  completes_or_panic s zero v = panic.switch s zero
  completes_or_panic s (suc t) v =
      pick (is_live (task s (suc t)).state) (completed_or_panic s (suc t) v (object s (task s (suc t)).coroutine.0)) (panic.switch s (suc t))
