-- A task whose gather failed still ends as it would have: its value, or its error, goes to nobody, and nothing else of its end differs
-- from that of a task that nobody awaits.
use Rattle.std.specs.Prelude.{◌≡◌, refl, ℕ}
use Rattle.std.proofs.Math.Option.{none}
use Rattle.asyncio.specs.declared.HeapId.{HeapId}
use Rattle.asyncio.specs.declared.Value.{Value}
use Rattle.asyncio.specs.declared.Error.{Error}
use Rattle.asyncio.specs.declared.Awaiter.{Awaiter}
use Rattle.asyncio.specs.declared.Object.{Object}
use Rattle.asyncio.specs.declared.GatherState.{GatherState}
use Rattle.machine.specs.Store.{Store, task, object, put_object, add_log, exited}
use Rattle.machine.specs.Scheduler.{as_awaited, remove_task}
use Rattle.machine.specs.Delivery.{nobody_woken, climb, resolve_child, resolve_awaited, fail_gather, fail_awaited, send_value, send_error, deliver_awaiter_success, deliver_awaiter_failure}
use Rattle.machine.specs.Events.{completed, resume_after_task_exit, handle_task_completion, activate}

-- a gather that failed is awaited no more
pub failed-not-awaited : (x : Object) (f n : ℕ) (e : Error) → x ≡ Object.GatherFuture f n (GatherState.Failed e) → as_awaited x ≡ none
unfolding as_awaited
failed-not-awaited x f n e h = rw h refl

-- A value for a place of a gather that is awaited no more: the store stays, and nobody is woken.
pub unawaited_success : (s : Store) (g source : HeapId) (v : Value) → as_awaited (object s g.0) ≡ none
    → deliver_awaiter_success s (Awaiter.GatherSlot g source) v ≡ deliver_awaiter_success s Awaiter.Nobody v
unfolding deliver_awaiter_success send_value resolve_child resolve_awaited climb
unawaited_success s g source v h = rw h refl

-- The same for an error: a second error of a gather reaches nobody.
pub unawaited_failure : (s : Store) (g source : HeapId) (e : Error) → as_awaited (object s g.0) ≡ none
    → deliver_awaiter_failure s (Awaiter.GatherSlot g source) e ≡ deliver_awaiter_failure s Awaiter.Nobody e
unfolding deliver_awaiter_failure send_error fail_gather fail_awaited climb
unawaited_failure s g source e h = rw h refl

-- the store that a completed task leaves: its coroutine is completed, and the task is gone
abbrev pub left_by : Store → ℕ → Store
left_by s t =
    let c : ℕ = (task s t).coroutine.0 in
    add_log (remove_task (put_object s c (completed (object s c))) t) (exited t)

-- A task completes whose gather is awaited no more: its coroutine is completed and the task goes as at any end, nobody is woken, and the
-- next that is ready runs.
pub unawaited_completes : (s : Store) (t : ℕ) (v : Value) (g source : HeapId) → (task s t).awaiter ≡ Awaiter.GatherSlot g source
    → as_awaited (object (left_by s t) g.0) ≡ none → handle_task_completion s t v ≡ resume_after_task_exit activate (nobody_woken (left_by s t))
unfolding handle_task_completion deliver_awaiter_success send_value resolve_child resolve_awaited climb
unawaited_completes s t v g source a h = rw (a, h) refl
