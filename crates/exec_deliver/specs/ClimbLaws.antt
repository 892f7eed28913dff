-- The turns of the climbs, in the shape of what the code knows there.
use Rattle.std.specs.Prelude.{◌≡◌, refl, List, length, replicate, None, Some}
use Rattle.std.proofs.Math.Path.{sym}
use Rattle.std.proofs.Common.{ap, ◌∙◌}
use Rattle.std.proofs.Math.Option.{some}
use Prim.Native.Nat.{ℕ, suc, ◌<◌}
use Rattle.asyncio.specs.Limits.{object_limit, tasks_length, objects_length, places_length}
use Rattle.asyncio.specs.Ranges.{AwaiterFits}
use Rattle.asyncio.specs.declared.HeapId.{HeapId}
use Rattle.asyncio.specs.declared.TaskId.{TaskId}
use Rattle.asyncio.specs.declared.Value.{Value}
use Rattle.asyncio.specs.declared.Error.{Error}
use Rattle.asyncio.specs.declared.Awaiter.{Awaiter}
use Rattle.asyncio.specs.declared.TaskState.{TaskState}
use Rattle.queue.specs.declared.ReadyQueue.{ReadyQueue}
use Rattle.scheduler.specs.Search.{FoundTask}
use Rattle.machine.specs.Store.{LogEntry, store_of}
use Rattle.machine.specs.Delivery.{Delivery, Settled, nobody_woken, deliver_to_task, resolve_child, fail_gather, climb, awaited_in, awaited_count, send_value, send_error, deliver_awaiter_success, deliver_awaiter_failure}
use Rattle.machine_laws.specs.Views.{Sized}
use Rattle.machine_laws.specs.DeliveryLaws.{resolve_sent, fail_sent, success_climbs, failure_climbs}
use Rattle.exec_fill.specs.Delivered.{delivered, settled}

module _ (ts os ps : List ℕ) (q : ReadyQueue) where
  -- nobody gets anything
  pub nobody : (l : List LogEntry) (v : Value) {d : Delivery} → deliver_awaiter_success (store_of ts os ps q l) Awaiter.Nobody v ≡ d
      → delivered (store_of ts os ps q d.store.log) None ≡ d
  unfolding deliver_awaiter_success send_value nobody_woken
  nobody l v e = rw (← e)

  -- to a task
  pub to_task : (l : List LogEntry) (t : TaskId) (v : Value) {d : Delivery} → deliver_awaiter_success (store_of ts os ps q l) (Awaiter.Task t) v ≡ d
      → {us : List ℕ} {r : ReadyQueue} (w : FoundTask)
      → delivered (store_of us os ps r (deliver_to_task (store_of ts os ps q l) t.0 (TaskState.Woken v)).store.log) w ≡ deliver_to_task (store_of ts os ps q l) t.0 (TaskState.Woken v)
      → delivered (store_of us os ps r d.store.log) w ≡ d
  unfolding deliver_awaiter_success send_value
  to_task l t v e w f = rw (← e) f

  module _ (g source : HeapId) (v : Value) {us rs : List ℕ} where
    -- a gather that sends nothing on
    pub stays : (l : List LogEntry) {d : Delivery} → deliver_awaiter_success (store_of ts os ps q l) (Awaiter.GatherSlot g source) v ≡ d
        → settled (store_of ts us rs q l) None ≡ resolve_child (store_of ts os ps q l) g.0 source.0 v
        → delivered (store_of ts us rs q d.store.log) None ≡ d
    unfolding deliver_awaiter_success send_value climb nobody_woken
    stays l e f = rw (← e, ← f)

    module _ (w : Awaiter) (z : length ts ≡ tasks_length) (y : length os ≡ objects_length) (x : length ps ≡ places_length) (h : g.0 < object_limit) (l : List LogEntry)
        (f : settled (store_of ts us rs q l) (Some w) ≡ resolve_child (store_of ts os ps q l) g.0 source.0 v) where
      sized : Sized (store_of ts os ps q l)
      sized = record { tasks_sized = z; objects_sized = y; places_sized = x }

      sends : (resolve_child (store_of ts os ps q l) g.0 source.0 v).onward ≡ some w
      sends = sym (ap (λ (r : Settled). r.onward) f)

      -- a gather that is completed: its list goes on to its awaiter
      pub climbs : deliver_awaiter_success (store_of ts us rs q l) w (Value.List g) ≡ deliver_awaiter_success (store_of ts os ps q l) (Awaiter.GatherSlot g source) v
      climbs =
          ap (λ (r : Settled). deliver_awaiter_success r.store w (Value.List g)) f
          ∙ sym (success_climbs (store_of ts os ps q l) g source v w sized h sends)

      pub climb-fits : AwaiterFits w
      climb-fits = (resolve_sent (store_of ts os ps q l) g.0 source.0 v sized h).fits w sends

      -- one awaited gather less
      pub climb-falls : awaited_in os ≡ suc (awaited_in us)
      unfolding awaited_count
      climb-falls = (resolve_sent (store_of ts os ps q l) g.0 source.0 v sized h).falls w sends ∙ sym (ap (λ (r : Settled). suc (awaited_in r.store.objects)) f)

-- ---- the same of an error

module _ (ts os ps : List ℕ) (q : ReadyQueue) (x : Error) where
  pub error-nobody : (l : List LogEntry) {d : Delivery} → deliver_awaiter_failure (store_of ts os ps q l) Awaiter.Nobody x ≡ d
      → delivered (store_of ts os ps q d.store.log) None ≡ d
  unfolding deliver_awaiter_failure send_error nobody_woken
  error-nobody l e = rw (← e)

  pub error-to_task : (l : List LogEntry) (t : TaskId) {d : Delivery} → deliver_awaiter_failure (store_of ts os ps q l) (Awaiter.Task t) x ≡ d
      → {us : List ℕ} {r : ReadyQueue} (w : FoundTask)
      → delivered (store_of us os ps r (deliver_to_task (store_of ts os ps q l) t.0 (TaskState.Raised x)).store.log) w ≡ deliver_to_task (store_of ts os ps q l) t.0 (TaskState.Raised x)
      → delivered (store_of us os ps r d.store.log) w ≡ d
  unfolding deliver_awaiter_failure send_error
  error-to_task l t e w f = rw (← e) f

  module _ (g source : HeapId) {us : List ℕ} where
    pub error-stays : (l : List LogEntry) {d : Delivery} → deliver_awaiter_failure (store_of ts os ps q l) (Awaiter.GatherSlot g source) x ≡ d
        → settled (store_of ts us ps q l) None ≡ fail_gather (store_of ts os ps q l) g.0 x
        → delivered (store_of ts us ps q d.store.log) None ≡ d
    unfolding deliver_awaiter_failure send_error climb nobody_woken
    error-stays l e f = rw (← e, ← f)

    module _ (w : Awaiter) (z : length ts ≡ tasks_length) (y : length os ≡ objects_length) (v : length ps ≡ places_length) (h : g.0 < object_limit) (l : List LogEntry)
        (f : settled (store_of ts us ps q l) (Some w) ≡ fail_gather (store_of ts os ps q l) g.0 x) where
      error-sized : Sized (store_of ts os ps q l)
      error-sized = record { tasks_sized = z; objects_sized = y; places_sized = v }

      error-sends : (fail_gather (store_of ts os ps q l) g.0 x).onward ≡ some w
      error-sends = sym (ap (λ (r : Settled). r.onward) f)

      pub error_climbs : deliver_awaiter_failure (store_of ts us ps q l) w x ≡ deliver_awaiter_failure (store_of ts os ps q l) (Awaiter.GatherSlot g source) x
      error_climbs =
          ap (λ (r : Settled). deliver_awaiter_failure r.store w x) f
          ∙ sym (failure_climbs (store_of ts os ps q l) g source x w error-sized h error-sends)

      pub error-fits : AwaiterFits w
      error-fits = (fail_sent (store_of ts os ps q l) g.0 x error-sized h).fits w error-sends

      pub error-falls : awaited_in os ≡ suc (awaited_in us)
      unfolding awaited_count
      error-falls = (fail_sent (store_of ts os ps q l) g.0 x error-sized h).falls w error-sends ∙ sym (ap (λ (r : Settled). suc (awaited_in r.store.objects)) f)

-- places of the right length, for what does not depend on them
pub some-places : List ℕ
some-places = replicate places_length 0

pub some_places_long : length some-places ≡ places_length
unfolding some-places
some_places_long = refl
