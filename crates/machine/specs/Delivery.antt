-- Delivery (async_exec.rs): a result or an error goes to its awaiter, through gathers, to a blocked task.
use Rattle.std.specs.Prelude.{ℕ, zero, suc, ◌+◌, ◌-◌, ◌/◌, ◌%◌, ◌^◌, Bool, true, false, not, ◌&&◌, List, eqb}
use Rattle.std.proofs.Math.Option.{Option, none, some}
use Rattle.asyncio.specs.declared.HeapId.{HeapId}
use Rattle.asyncio.specs.declared.CallId.{CallId}
use Rattle.asyncio.specs.declared.TaskId.{TaskId}
use Rattle.asyncio.specs.declared.Value.{Value}
use Rattle.asyncio.specs.declared.Error.{Error}
use Rattle.asyncio.specs.declared.TaskState.{TaskState}
use Rattle.asyncio.specs.declared.Awaiter.{Awaiter}
use Rattle.asyncio.specs.Options.{OptionValue}
use Rattle.std.specs.Prelude.{None, Some}
use Rattle.asyncio.specs.declared.ExternalFutureState.{ExternalFutureState}
use Rattle.asyncio.specs.declared.GatherState.{GatherState}
use Rattle.asyncio.specs.declared.Object.{Object}
use Rattle.asyncio.specs.declared.Place.{Place}
use Rattle.asyncio.specs.States.{pick}
use Rattle.asyncio.specs.States.{is_blocked}
use Rattle.asyncio.specs.Kinds.{kind, is_awaited}
use Rattle.rows.specs.Tables.{place_at, place_put, count_objects}
use Rattle.machine.specs.Store.{Store, task, object, put_object, put_places, add_log, reached}
use Rattle.machine.specs.Scheduler.{AwaitedGather, PendingExternal, as_awaited, as_pending, bit, make_ready, pending_external}

-- The store after a delivery, and the task that it woke.
pub record Delivery : Type 0 where
  pub store : Store
  pub woken : Option ℕ

-- nobody gets anything
unfoldable pub nobody_woken : Store → Delivery
nobody_woken s = record { store = s; woken = none }

-- A blocked task becomes ready with a value or an error; any other receives nothing.
unfoldable pub deliver_to_task : Store → ℕ → TaskState → Delivery
deliver_to_task s t x =
    pick (is_blocked (task s t).state) (record { store = add_log (make_ready s t x) (reached t); woken = some t }) (nobody_woken s)

-- ---- into a gather

-- The places' words and a gather's open word while its places are filled.
pub record Filled : Type 0 where
  pub places : List ℕ
  pub open_places : ℕ

-- the places and the open word
abbrev pub filled : List ℕ → ℕ → Filled
filled ps m = record { places = ps; open_places = m }

-- place p, which is place i of its gather: if it is open and names the source, the value goes in and the bit is cleared
unfoldable pub fill_one : List ℕ → ℕ → ℕ → ℕ → ℕ → Value → Filled
fill_one ps m p i source v =
    pick (bit m i)
    (pick (eqb (place_at ps p).item.0 source)
    (filled (place_put ps p (record { item = (place_at ps p).item; result = Some v })) (m - 2 ^ i))
    (filled ps m))
    (filled ps m)

-- the k places from i on, of the gather whose places start at `first`
unfoldable pub fill_from : List ℕ → ℕ → ℕ → ℕ → Value → ℕ → ℕ → Filled
fill_from ps m first source v i zero = filled ps m
fill_from ps m first source v i (suc k) =
    let f : Filled = fill_one ps m (first + i) i source v in
    fill_from f.places f.open_places first source v (i + 1) k

-- The store after a gather was settled, and where its result goes on to: nowhere, if it was settled before or still waits.
pub record Settled : Type 0 where
  pub store : Store
  pub onward : Option Awaiter

-- the gather when its places are filled: completed if none is open any more (true), else it waits on
unfoldable pub resolve_left : Bool → Store → ℕ → AwaitedGather → ℕ → Settled
resolve_left true s g w m =
    record { store = put_object s g (Object.GatherFuture w.first w.count GatherState.Completed); onward = some w.awaiter }
resolve_left false s g w m =
    record { store = put_object s g (Object.GatherFuture w.first w.count (GatherState.Awaited w.awaiter m)); onward = none }

-- a child's value, in a gather that is awaited or not
unfoldable pub resolve_awaited : Store → ℕ → ℕ → Value → Option AwaitedGather → Settled
resolve_awaited s g source v none = record { store = s; onward = none }
resolve_awaited s g source v (some w) =
    let f : Filled = fill_from s.places w.open_places w.first source v 0 w.count in
    resolve_left (eqb f.open_places 0) (put_places s f.places) g w f.open_places

-- A child's value, in a gather: it completes when no place is open. A gather that is not awaited discards the value.
unfoldable pub resolve_child : Store → ℕ → ℕ → Value → Settled
resolve_child s g source v = resolve_awaited s g source v (as_awaited (object s g))

-- a child's error, in a gather that is awaited or not
unfoldable pub fail_awaited : Store → ℕ → Error → Option AwaitedGather → Settled
fail_awaited s g e none = record { store = s; onward = none }
fail_awaited s g e (some w) =
    record { store = put_object s g (Object.GatherFuture w.first w.count (GatherState.Failed e)); onward = some w.awaiter }

-- The first failure of an awaited gather; one that is not awaited keeps its state.
unfoldable pub fail_gather : Store → ℕ → Error → Settled
fail_gather s g e = fail_awaited s g e (as_awaited (object s g))

-- ---- up the gathers

-- a delivery ends where a gather sends nothing on
unfoldable pub climb : (Store → Awaiter → Delivery) → Store → Option Awaiter → Delivery
climb go s none = nobody_woken s
climb go s (some a) = go s a

-- how many gathers are awaited: a delivery goes on only where it settles one of them, so this is its fuel
unfoldable pub awaited_in : List ℕ → ℕ
awaited_in os = count_objects (λ r. is_awaited (kind r)) os

-- of a store
unfoldable pub awaited_count : Store → ℕ
awaited_count s = awaited_in s.objects

-- a value to its awaiter; `go` takes the list of a gather that it completes on to that gather's own awaiter
unfoldable pub send_value : (Store → Awaiter → Value → Delivery) → Store → Awaiter → Value → Delivery
send_value go s Awaiter.Nobody v = nobody_woken s
send_value go s (Awaiter.Task t) v = deliver_to_task s t.0 (TaskState.Woken v)
send_value go s (Awaiter.GatherSlot g source) v =
    let r : Settled = resolve_child s g.0 source.0 v in
    climb (λ x a. go x a (Value.List g)) r.store r.onward

-- a value on its way up, through k gathers at most
unfoldable pub climb_value : ℕ → Store → Awaiter → Value → Delivery
climb_value zero s a v = nobody_woken s
climb_value (suc k) s a v = send_value (λ x b w. climb_value k x b w) s a v

-- Success climbs through each gather that it completes.
unfoldable pub deliver_awaiter_success : Store → Awaiter → Value → Delivery
deliver_awaiter_success s a v = send_value (λ x b w. climb_value (awaited_count s) x b w) s a v

-- an error to its awaiter; `go` takes it on from a gather that it fails
unfoldable pub send_error : (Store → Awaiter → Error → Delivery) → Store → Awaiter → Error → Delivery
send_error go s Awaiter.Nobody e = nobody_woken s
send_error go s (Awaiter.Task t) e = deliver_to_task s t.0 (TaskState.Raised e)
send_error go s (Awaiter.GatherSlot g source) e =
    let r : Settled = fail_gather s g.0 e in
    climb (λ x a. go x a e) r.store r.onward

-- an error on its way up, through k gathers at most
unfoldable pub climb_error : ℕ → Store → Awaiter → Error → Delivery
climb_error zero s a e = nobody_woken s
climb_error (suc k) s a e = send_error (λ x b f. climb_error k x b f) s a e

-- Failure marks each awaited gather failed and climbs.
unfoldable pub deliver_awaiter_failure : Store → Awaiter → Error → Delivery
deliver_awaiter_failure s a e = send_error (λ x b f. climb_error (awaited_count s) x b f) s a e

-- ---- from an external

-- a stored result replaces the host's value
unfoldable pub value_or : OptionValue → Value → Value
value_or None v = v
value_or (Some x) v = x

-- the pending external o is settled; then its awaiter is served
unfoldable pub resolve_pending : Store → ℕ → PendingExternal → Value → Store
resolve_pending s o p v =
    let x : Value = value_or p.stored v in
    (deliver_awaiter_success (put_object s o (Object.ExternalFuture p.call (ExternalFutureState.Resolved x))) p.awaiter x).store

-- the same with an error; a stored result is dropped
unfoldable pub fail_pending : Store → ℕ → PendingExternal → Error → Store
fail_pending s o p e =
    (deliver_awaiter_failure (put_object s o (Object.ExternalFuture p.call (ExternalFutureState.Failed e))) p.awaiter e).store

-- a pending external is settled; any other object stays
unfoldable pub settle_pending : Store → Option PendingExternal → (PendingExternal → Store) → Store
settle_pending s none f = s
settle_pending s (some p) f = f p

-- the pending external of a call, with its number
unfoldable pub settle_found : Store → Option ℕ → (ℕ → PendingExternal → Store) → Store
settle_found s none f = s
settle_found s (some o) f = settle_pending s (as_pending (object s o)) (f o)

-- A call that is not pending is ignored.
unfoldable pub resolve_future : Store → ℕ → Value → Store
resolve_future s call v = settle_found s (pending_external s call) (λ o p. resolve_pending s o p v)

-- The same with an error.
unfoldable pub fail_future : Store → ℕ → Error → Store
fail_future s call e = settle_found s (pending_external s call) (λ o p. fail_pending s o p e)
