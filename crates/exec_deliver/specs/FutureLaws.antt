-- The ways through resolve_future and fail_future, in the shape of what the code knows there.
use Rattle.std.specs.Prelude.{◌≡◌, refl, List, ℕ, ◌<◌, None, Some, unwrap_or}
use Rattle.std.proofs.Common.{sym, ap, ◌∙◌, arith}
use Rattle.std.proofs.Math.Option.{none, some}
use Rattle.asyncio.specs.Limits.{object_limit}
use Rattle.asyncio.specs.Ranges.{ObjectFits, AwaiterFits}
use Rattle.asyncio.specs.declared.HeapId.{HeapId}
use Rattle.asyncio.specs.declared.Value.{Value}
use Rattle.asyncio.specs.Options.{OptionValue}
use Rattle.asyncio.specs.declared.Error.{Error}
use Rattle.asyncio.specs.declared.ExternalFutureState.{ExternalFutureState}
use Rattle.asyncio.specs.declared.Object.{Object}
use Rattle.rows.specs.Tables.{object_at, object_put, header_at}
use Rattle.rows.specs.TableLaws.{object_at-fits, header_at-fits}
use Rattle.queue.specs.declared.ReadyQueue.{ReadyQueue}
use Rattle.scheduler.specs.Search.{FoundTask}
use Rattle.scheduler.specs.Search.{FoundObject}
use Rattle.scheduler.specs.Search.{found_object}
use Rattle.scheduler.specs.SearchLaws.{object-found, no_object}
use Rattle.machine.specs.Store.{LogEntry, store_of, object, put_object}
use Rattle.machine.specs.Scheduler.{as_pending, first_from, is_call, pending_external_in, pending_external}
use Rattle.machine.specs.Delivery.{Delivery, value_or, settle_pending, settle_found, resolve_pending, fail_pending, resolve_future, fail_future, deliver_awaiter_success, deliver_awaiter_failure}
use Rattle.machine_laws.specs.DeliveryLaws.{first_below, pending-object}
use Rattle.exec_fill.specs.Delivered.{delivered}
use Rattle.exec_deliver.specs.Futures.{resolve_at, fail_at}
use Rattle.exec_deliver.specs.Pending.{OptionPending, pending_of, option_pending}
use Rattle.exec_deliver.specs.declared.pending.PendingExternal.{PendingExternal}

-- the object that a call was found at
pub found_below : (os : List ℕ) (call : ℕ) (n : HeapId) {d : FoundObject} → d ≡ found_object (pending_external_in os call) → d ≡ Some n → n.0 < object_limit
unfolding pending_external_in
found_below os call n e t =
    omega (arith, first_below (is_call os call) (header_at os).made 0 n.0 (object-found (first_from (is_call os call) 0 (header_at os).made) n (sym e ∙ t)), (header_at-fits os).made_fits)

-- the awaiter of a pending external that was read is in range
pub external_range : (os : List ℕ) (o : ℕ) (p : PendingExternal) {d : OptionPending} → option_pending d ≡ as_pending (object_at os o) → d ≡ Some p → AwaiterFits p.awaiter
external_range os o p e f =
    let h : ObjectFits (Object.ExternalFuture p.call (ExternalFutureState.Pending p.awaiter p.stored)) =
    rw (pending-object (object_at os o) (pending_of p) (sym (rw f at e))) at (object_at-fits os o) in
    h.1.0

-- Rust's word for the value that is stored, or else the host's
value_or-unwrap_or : (x : OptionValue) (v : Value) → value_or x v ≡ unwrap_or x v
unfolding value_or
value_or-unwrap_or None v = refl
value_or-unwrap_or (Some y) v = refl

module _ (ts os ps : List ℕ) (q : ReadyQueue) (l : List LogEntry) where
  module _ (o : ℕ) {d : OptionPending} (e : option_pending d ≡ as_pending (object_at os o)) where
    pub resolve_nothing : (v : Value) → d ≡ None → store_of ts os ps q (resolve_at (store_of ts os ps q l) o v).log ≡ resolve_at (store_of ts os ps q l) o v
    unfolding resolve_at settle_found settle_pending object
    resolve_nothing v f = rw (← e, f)

    pub fail-nothing : (v : Error) → d ≡ None → store_of ts os ps q (fail_at (store_of ts os ps q l) o v).log ≡ fail_at (store_of ts os ps q l) o v
    unfolding fail_at settle_found settle_pending object
    fail-nothing v f = rw (← e, f)

    module _ (p : PendingExternal) (f : d ≡ Some p) {us : List ℕ} where
      resolve-goes : (v : Value) {u : Value} → u ≡ unwrap_or p.stored v → us ≡ object_put os o (Object.ExternalFuture p.call (ExternalFutureState.Resolved u))
          → resolve_at (store_of ts os ps q l) o v ≡ (deliver_awaiter_success (store_of ts us ps q l) p.awaiter u).store
      unfolding resolve_at settle_found settle_pending resolve_pending object put_object
      resolve-goes v g r = rw (← e, f, r, g ∙ sym (value_or-unwrap_or p.stored v))

      pub resolves : (v : Value) {u : Value} → u ≡ unwrap_or p.stored v → us ≡ object_put os o (Object.ExternalFuture p.call (ExternalFutureState.Resolved u))
          → {ts' os' ps' : List ℕ} {q' : ReadyQueue} (k : FoundTask)
          → delivered (store_of ts' os' ps' q' (deliver_awaiter_success (store_of ts us ps q l) p.awaiter u).store.log) k ≡ deliver_awaiter_success (store_of ts us ps q l) p.awaiter u
          → store_of ts' os' ps' q' (resolve_at (store_of ts os ps q l) o v).log ≡ resolve_at (store_of ts os ps q l) o v
      resolves v g r k h = rw (resolve-goes v g r) (ap (λ (y : Delivery). y.store) h)

      fail-goes : (v : Error) → us ≡ object_put os o (Object.ExternalFuture p.call (ExternalFutureState.Failed v))
          → fail_at (store_of ts os ps q l) o v ≡ (deliver_awaiter_failure (store_of ts us ps q l) p.awaiter v).store
      unfolding fail_at settle_found settle_pending fail_pending object put_object
      fail-goes v r = rw (← e, f, r)

      pub fails-at : (v : Error) → us ≡ object_put os o (Object.ExternalFuture p.call (ExternalFutureState.Failed v))
          → {ts' os' : List ℕ} {q' : ReadyQueue} (k : FoundTask)
          → delivered (store_of ts' os' ps q' (deliver_awaiter_failure (store_of ts us ps q l) p.awaiter v).store.log) k ≡ deliver_awaiter_failure (store_of ts us ps q l) p.awaiter v
          → store_of ts' os' ps q' (fail_at (store_of ts os ps q l) o v).log ≡ fail_at (store_of ts os ps q l) o v
      fails-at v r k h = rw (fail-goes v r) (ap (λ (y : Delivery). y.store) h)

  module _ (call : ℕ) {d : FoundObject} (e : d ≡ found_object (pending_external_in os call)) where
    free : d ≡ None → pending_external_in os call ≡ none
    free t = no_object (pending_external_in os call) (sym e ∙ t)

    here : (n : HeapId) → d ≡ Some n → pending_external_in os call ≡ some n.0
    here n t = object-found (pending_external_in os call) n (sym e ∙ t)

    pub resolve_none : (v : Value) → d ≡ None → store_of ts os ps q (resolve_future (store_of ts os ps q l) call v).log ≡ resolve_future (store_of ts os ps q l) call v
    unfolding resolve_future pending_external settle_found
    resolve_none v t = rw (free t)

    pub fail-none : (v : Error) → d ≡ None → store_of ts os ps q (fail_future (store_of ts os ps q l) call v).log ≡ fail_future (store_of ts os ps q l) call v
    unfolding fail_future pending_external settle_found
    fail-none v t = rw (free t)

    module _ (n : HeapId) (t : d ≡ Some n) {ts' os' ps' : List ℕ} {q' : ReadyQueue} where
      pub resolve_found : (v : Value) → store_of ts' os' ps' q' (resolve_at (store_of ts os ps q l) n.0 v).log ≡ resolve_at (store_of ts os ps q l) n.0 v
          → store_of ts' os' ps' q' (resolve_future (store_of ts os ps q l) call v).log ≡ resolve_future (store_of ts os ps q l) call v
      unfolding resolve_future pending_external resolve_at
      resolve_found v r = rw (here n t) r

      pub fail-found : (v : Error) → store_of ts' os' ps' q' (fail_at (store_of ts os ps q l) n.0 v).log ≡ fail_at (store_of ts os ps q l) n.0 v
          → store_of ts' os' ps' q' (fail_future (store_of ts os ps q l) call v).log ≡ fail_future (store_of ts os ps q l) call v
      unfolding fail_future pending_external fail_at
      fail-found v r = rw (here n t) r
