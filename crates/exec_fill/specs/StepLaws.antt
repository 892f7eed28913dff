-- The ways through deliver_to_task, resolve_child and fail, in the shape of what the code knows there.
use Rattle.std.specs.Prelude.{◌≡◌, Bool, true, false, List, ℕ, None, Some}
use borrow.Author.Tests.{eq-eqb, ne_eqb}
use Rattle.asyncio.specs.States.{is_blocked}
use Rattle.asyncio.specs.declared.Value.{Value}
use Rattle.asyncio.specs.declared.Error.{Error}
use Rattle.asyncio.specs.declared.GatherState.{GatherState}
use Rattle.asyncio.specs.declared.Object.{Object}
use Rattle.asyncio.specs.declared.TaskState.{TaskState}
use Rattle.rows.specs.Tables.{task_at, object_at, object_put}
use Rattle.queue.specs.declared.ReadyQueue.{ReadyQueue}
use Rattle.asyncio.specs.Numbers.{task_id}
use Rattle.scheduler_states.specs.Awaited.{option_awaited}
use Rattle.scheduler_states.specs.declared.awaited.AwaitedGather.{AwaitedGather}
use Rattle.scheduler_states.specs.Awaited.{OptionAwaited}
use Rattle.machine.specs.Store.{LogEntry, store_of, task, object, put_object, put_places, add_log}
use Rattle.machine.specs.Scheduler.{as_awaited, make_ready}
use Rattle.machine.specs.Delivery.{filled, fill_from, nobody_woken, deliver_to_task, resolve_left, resolve_awaited, resolve_child, fail_awaited, fail_gather}
use Rattle.exec_fill.specs.Delivered.{delivered, settled}

-- ---- to a task

module _ (ts os ps : List ℕ) (q : ReadyQueue) (l : List LogEntry) (t : ℕ) (x : TaskState) {b : Bool} (e : b ≡ is_blocked (task_at ts t).state) where
  pub reaches : b ≡ true → {us : List ℕ} {r : ReadyQueue} → store_of us os ps r l ≡ make_ready (store_of ts os ps q l) t x
      → delivered (store_of us os ps r (deliver_to_task (store_of ts os ps q l) t x).store.log) (Some (task_id t)) ≡ deliver_to_task (store_of ts os ps q l) t x
  unfolding deliver_to_task add_log task
  reaches k m = rw (← e, k, ← m)

  pub reaches_not : b ≡ false → delivered (store_of ts os ps q (deliver_to_task (store_of ts os ps q l) t x).store.log) None ≡ deliver_to_task (store_of ts os ps q l) t x
  unfolding deliver_to_task nobody_woken task
  reaches_not k = rw (← e, k)

-- ---- into a gather

module _ (ts os ps : List ℕ) (q : ReadyQueue) (l : List LogEntry) (g : ℕ) {a : OptionAwaited} (e : option_awaited a ≡ as_awaited (object_at os g)) where
  module _ (source : ℕ) (v : Value) where
    pub resolve_idle : a ≡ None → settled (store_of ts os ps q l) None ≡ resolve_child (store_of ts os ps q l) g source v
    unfolding resolve_child resolve_awaited object
    resolve_idle f = rw (← e, f)

    module _ (w : AwaitedGather) (f : a ≡ Some w) {rs : List ℕ} {k : ℕ}
        (fills : filled rs k ≡ fill_from ps w.open_places w.first source v 0 w.count) where
      pub resolve_completes : k ≡ 0 → {us : List ℕ} → us ≡ object_put os g (Object.GatherFuture w.first w.count GatherState.Completed)
          → settled (store_of ts us rs q l) (Some w.awaiter) ≡ resolve_child (store_of ts os ps q l) g source v
      unfolding resolve_child resolve_awaited resolve_left object put_places put_object
      resolve_completes z p = rw (← e, f, ← fills, eq-eqb k 0 z, p)

      pub resolve_waits : (k ≡ 0 → ⊥) → {us : List ℕ} → us ≡ object_put os g (Object.GatherFuture w.first w.count (GatherState.Awaited w.awaiter k))
          → settled (store_of ts us rs q l) None ≡ resolve_child (store_of ts os ps q l) g source v
      unfolding resolve_child resolve_awaited resolve_left object put_places put_object
      resolve_waits z p = rw (← e, f, ← fills, ne_eqb k 0 z, p)

  module _ (x : Error) where
    pub fail-idle : a ≡ None → settled (store_of ts os ps q l) None ≡ fail_gather (store_of ts os ps q l) g x
    unfolding fail_gather fail_awaited object
    fail-idle f = rw (← e, f)

    pub fails : (w : AwaitedGather) → a ≡ Some w → {us : List ℕ} → us ≡ object_put os g (Object.GatherFuture w.first w.count (GatherState.Failed x))
        → settled (store_of ts us ps q l) (Some w.awaiter) ≡ fail_gather (store_of ts os ps q l) g x
    unfolding fail_gather fail_awaited object put_object
    fails w f p = rw (← e, f, p)
