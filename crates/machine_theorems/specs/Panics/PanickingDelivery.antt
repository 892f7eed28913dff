-- Delivery (Delivery) with the Rust's panics in it: where the Rust panics, whatever a panic does stands in the place of the harmless branch;
-- where the machine has no such branch, the test that the Rust makes stands before what the machine does. Each definition has the machine's
-- name for it in its comment, and is that definition but for the panics.
use Rattle.std.specs.Prelude.{ℕ, zero, suc, ◌+◌, ◌-◌, ◌^◌, Bool, true, false, eqb, ltb, List, [], ◌∷◌}
use Rattle.std.proofs.Math.Option.{Option, none, some}
use Rattle.asyncio.specs.declared.Value.{Value}
use Rattle.asyncio.specs.declared.Error.{Error}
use Rattle.std.specs.Prelude.{Some}
use Rattle.asyncio.specs.declared.TaskState.{TaskState}
use Rattle.asyncio.specs.declared.Awaiter.{Awaiter}
use Rattle.asyncio.specs.declared.ExternalFutureState.{ExternalFutureState}
use Rattle.asyncio.specs.declared.GatherState.{GatherState}
use Rattle.asyncio.specs.declared.Object.{Object}
use Rattle.asyncio.specs.Layout.{to_value, to_error}
use Rattle.asyncio.specs.States.{pick, is_blocked}
use Rattle.rows.specs.Tables.{place_at, place_put}
use Rattle.machine.specs.Store.{Store, task, object, place, put_object, put_places, add_log, reached}
use Rattle.machine.specs.Scheduler.{AwaitedGather, PendingExternal, as_pending, bit, make_ready, pending_external}
use Rattle.machine.specs.Delivery.{Delivery, nobody_woken, Filled, filled, Settled, climb, awaited_count, value_or}
use Rattle.machine.specs.Commit.{open_from}
use Rattle.machine.specs.Events.{Result}
use Rattle.machine.specs.Sound.{rest_filled}
use Rattle.machine_theorems.specs.Panics.Panic.{Panics}

module _ (panic : Panics) where
  -- `make_ready`: the task is blocked, so that it is there (scheduler.rs:197, 302)
  unfoldable pub ready_or_panic : Store → ℕ → TaskState → Delivery
  ready_or_panic s t x = pick (is_blocked (task s t).state) (record { store = add_log (make_ready s t x) (reached t); woken = some t }) (panic.delivery s)

  -- `deliver_to_task`
  unfoldable pub to_task_or_panic : Store → ℕ → TaskState → Delivery
  to_task_or_panic s t x = pick (is_blocked (task s t).state) (ready_or_panic s t x) (nobody_woken s)

  -- ---- into a gather

  -- `fill_one`, of a gather of n places: `results[idx]` (async_exec.rs:1099)
  unfoldable pub fill_one_or_panic : List ℕ → ℕ → ℕ → ℕ → ℕ → ℕ → Value → Filled
  fill_one_or_panic ps m p i n source v =
      pick (bit m i)
      (pick (eqb (place_at ps p).item.0 source)
      (pick (ltb i n) (filled (place_put ps p (record { item = (place_at ps p).item; result = Some v })) (m - 2 ^ i)) (panic.filled ps))
      (filled ps m))
      (filled ps m)

  -- `fill_from`
  unfoldable pub fill_or_panic : List ℕ → ℕ → ℕ → ℕ → ℕ → Value → ℕ → ℕ → Filled
  fill_or_panic ps m first n source v i zero = filled ps m
  fill_or_panic ps m first n source v i (suc k) =
      let f : Filled = fill_one_or_panic ps m (first + i) i n source v in
      fill_or_panic f.places f.open_places first n source v (i + 1) k

  -- `resolve_left`: a gather that completes has all its results (async_exec.rs:1127)
  unfoldable pub left_or_panic : Bool → Store → ℕ → AwaitedGather → ℕ → Settled
  left_or_panic true s g w m =
      pick (rest_filled (place s) w.first w.count 0)
      (record { store = put_object s g (Object.GatherFuture w.first w.count GatherState.Completed); onward = some w.awaiter })
      (panic.settled s)
  left_or_panic false s g w m =
      record { store = put_object s g (Object.GatherFuture w.first w.count (GatherState.Awaited w.awaiter m)); onward = none }

  -- `resolve_awaited`, of an awaited gather: the child is registered with it (async_exec.rs:1084)
  unfoldable pub awaited_or_panic : Store → ℕ → ℕ → Value → AwaitedGather → Settled
  awaited_or_panic s g source v w =
      let f : Filled = fill_or_panic s.places w.open_places w.first w.count source v 0 w.count in
      pick (open_from (place s) w source 0 w.count)
      (left_or_panic (eqb f.open_places 0) (put_places s f.places) g w f.open_places)
      (panic.settled s)

  -- `resolve_child`, of the slot's object: it is a gather (async_exec.rs:763) that was awaited at some time (1074)
  unfoldable pub child_or_panic : Store → ℕ → ℕ → Value → Object → Settled
  child_or_panic s g source v Object.Unmade = panic.settled s
  child_or_panic s g source v (Object.Coroutine f x) = panic.settled s
  child_or_panic s g source v (Object.ExternalFuture c x) = panic.settled s
  child_or_panic s g source v (Object.GatherFuture f n GatherState.Pending) = panic.settled s
  child_or_panic s g source v (Object.GatherFuture f n (GatherState.Awaited a m)) =
      awaited_or_panic s g source v (record { first = f; count = n; awaiter = a; open_places = m })
  child_or_panic s g source v (Object.GatherFuture f n GatherState.Completed) = record { store = s; onward = none }
  child_or_panic s g source v (Object.GatherFuture f n (GatherState.Failed e)) = record { store = s; onward = none }

  -- `fail_gather`, of the slot's object: it is a gather (async_exec.rs:784)
  unfoldable pub gather_or_panic : Store → ℕ → Error → Object → Settled
  gather_or_panic s g e Object.Unmade = panic.settled s
  gather_or_panic s g e (Object.Coroutine f x) = panic.settled s
  gather_or_panic s g e (Object.ExternalFuture c x) = panic.settled s
  gather_or_panic s g e (Object.GatherFuture f n GatherState.Pending) = record { store = s; onward = none }
  gather_or_panic s g e (Object.GatherFuture f n (GatherState.Awaited a m)) =
      record { store = put_object s g (Object.GatherFuture f n (GatherState.Failed e)); onward = some a }
  gather_or_panic s g e (Object.GatherFuture f n GatherState.Completed) = record { store = s; onward = none }
  gather_or_panic s g e (Object.GatherFuture f n (GatherState.Failed x)) = record { store = s; onward = none }

  -- ---- up the gathers

  -- `send_value`
  unfoldable pub value_or_panic : (Store → Awaiter → Value → Delivery) → Store → Awaiter → Value → Delivery
  value_or_panic go s Awaiter.Nobody v = nobody_woken s
  value_or_panic go s (Awaiter.Task t) v = to_task_or_panic s t.0 (TaskState.Woken v)
  value_or_panic go s (Awaiter.GatherSlot g source) v =
      let r : Settled = child_or_panic s g.0 source.0 v (object s g.0) in
      climb (λ x a. go x a (Value.List g)) r.store r.onward

  -- `climb_value`; the Rust's loop has no fuel: that it ends here is a panic too
  unfoldable pub climb_value_or_panic : ℕ → Store → Awaiter → Value → Delivery
  climb_value_or_panic zero s a v = panic.delivery s
  climb_value_or_panic (suc k) s a v = value_or_panic (λ x b w. climb_value_or_panic k x b w) s a v

  -- `deliver_awaiter_success`
  unfoldable pub success_or_panic : Store → Awaiter → Value → Delivery
  success_or_panic s a v = value_or_panic (λ x b w. climb_value_or_panic (awaited_count s) x b w) s a v

  -- `send_error`
  unfoldable pub error_or_panic : (Store → Awaiter → Error → Delivery) → Store → Awaiter → Error → Delivery
  error_or_panic go s Awaiter.Nobody e = nobody_woken s
  error_or_panic go s (Awaiter.Task t) e = to_task_or_panic s t.0 (TaskState.Raised e)
  error_or_panic go s (Awaiter.GatherSlot g source) e =
      let r : Settled = gather_or_panic s g.0 e (object s g.0) in
      climb (λ x a. go x a e) r.store r.onward

  -- `climb_error`; fuel as for a value
  unfoldable pub climb_error_or_panic : ℕ → Store → Awaiter → Error → Delivery
  climb_error_or_panic zero s a e = panic.delivery s
  climb_error_or_panic (suc k) s a e = error_or_panic (λ x b f. climb_error_or_panic k x b f) s a e

  -- `deliver_awaiter_failure`
  unfoldable pub failure_or_panic : Store → Awaiter → Error → Delivery
  failure_or_panic s a e = error_or_panic (λ x b f. climb_error_or_panic (awaited_count s) x b f) s a e

  -- ---- from an external

  -- `resolve_pending`
  unfoldable pub resolve_or_panic : Store → ℕ → PendingExternal → Value → Store
  resolve_or_panic s o p v =
      let x : Value = value_or p.stored v in
      (success_or_panic (put_object s o (Object.ExternalFuture p.call (ExternalFutureState.Resolved x))) p.awaiter x).store

  -- `fail_pending`
  unfoldable pub fail_or_panic : Store → ℕ → PendingExternal → Error → Store
  fail_or_panic s o p e =
      (failure_or_panic (put_object s o (Object.ExternalFuture p.call (ExternalFutureState.Failed e))) p.awaiter e).store

  -- `settle_pending`: what is found for a call is an external (async_exec.rs:703, 811) that is not settled (721, 819)
  unfoldable pub pending_or_panic : Store → Option PendingExternal → (PendingExternal → Store) → Store
  pending_or_panic s none f = panic.store s
  pending_or_panic s (some p) f = f p

  -- `settle_found`
  unfoldable pub found_or_panic : Store → Option ℕ → (ℕ → PendingExternal → Store) → Store
  found_or_panic s none f = s
  found_or_panic s (some o) f = pending_or_panic s (as_pending (object s o)) (f o)

  -- `resolve_future`
  unfoldable pub resolve_future_or_panic : Store → ℕ → Value → Store
  resolve_future_or_panic s call v = found_or_panic s (pending_external s call) (λ o p. resolve_or_panic s o p v)

  -- `fail_future`
  unfoldable pub fail_future_or_panic : Store → ℕ → Error → Store
  fail_future_or_panic s call e = found_or_panic s (pending_external s call) (λ o p. fail_or_panic s o p e)

  -- `apply_result`
  unfoldable pub result_or_panic : Store → Result → Store
  result_or_panic s r =
      pick (eqb r.kind 0) (resolve_future_or_panic s r.call (to_value r.tag r.number))
      (pick (eqb r.kind 1) (fail_future_or_panic s r.call (to_error 0 r.number))
      (pick (eqb r.kind 2) s
      (pick (eqb r.kind 3) (fail_future_or_panic s r.call Error.NotFound)
      (fail_future_or_panic s r.call Error.ModuleFile))))

  -- `apply_future_results`
  unfoldable pub results_or_panic : Store → List Result → Store
  results_or_panic s [] = s
  results_or_panic s (r ∷ rs) = results_or_panic (result_or_panic s r) rs
