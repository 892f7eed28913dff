-- Committing a gather and the gathers nested in it (commit_gather_tree): a walk with a stack of frames.
-- While its frame is on the stack, a gather is awaited, and its places below the frame's next are open or filled.
use Rattle.std.specs.Prelude.{ℕ, zero, suc, ◌+◌, ◌-◌, ◌*◌, ◌/◌, ◌%◌, ◌^◌, Bool, true, false, not, ◌&&◌, List, [], ◌∷◌, eqb}
use Rattle.std.proofs.Math.Option.{Option, none, some}
use Rattle.asyncio.specs.declared.HeapId.{HeapId}
use Rattle.asyncio.specs.declared.CallId.{CallId}
use Rattle.asyncio.specs.declared.Value.{Value}
use Rattle.asyncio.specs.declared.Error.{Error}
use Rattle.asyncio.specs.declared.Awaiter.{Awaiter}
use Rattle.asyncio.specs.Options.{OptionValue}
use Rattle.std.specs.Prelude.{Some}
use Rattle.asyncio.specs.declared.CoroutineState.{CoroutineState}
use Rattle.asyncio.specs.declared.ExternalFutureState.{ExternalFutureState}
use Rattle.asyncio.specs.declared.GatherState.{GatherState}
use Rattle.asyncio.specs.declared.Object.{Object}
use Rattle.asyncio.specs.declared.Place.{Place}
use Rattle.asyncio.specs.States.{pick}
use Rattle.asyncio.specs.Numbers.{heap_id}
use Rattle.asyncio.specs.Kinds.{kind, is_pending_gather}
use Rattle.asyncio.specs.Parts.{count_of}
use Rattle.rows.specs.Tables.{count_objects}
use Rattle.machine.specs.Store.{Store, object, put_object, place, put_place}
use Rattle.machine.specs.Scheduler.{AwaitedGather, as_awaited, bit, spawn}

-- What an awaitable gives at once: a value, an error, or nothing yet.
pub data Poll : Type 0 where
  ready : Value → Poll
  raised : Error → Poll
  pending : Poll

-- The store after a poll, and what it gave.
pub record Polled : Type 0 where
  pub store : Store
  pub poll : Poll

-- a store and what was polled
abbrev pub gives : Store → Poll → Polled
gives s p = record { store = s; poll = p }

-- ---- one item

-- a pending external takes the awaiter if it has none
unfoldable pub await_pending : Store → ℕ → CallId → OptionValue → Awaiter → Awaiter → Polled
await_pending s o c r Awaiter.Nobody a = gives (put_object s o (Object.ExternalFuture c (ExternalFutureState.Pending a r))) pending
await_pending s o c r (Awaiter.Task t) a = gives s (raised Error.FutureReuse)
await_pending s o c r (Awaiter.GatherSlot g x) a = gives s (raised Error.FutureReuse)

-- An external: settled, or it takes the awaiter (await_external_future).
unfoldable pub await_external : Store → ℕ → CallId → ExternalFutureState → Awaiter → Polled
await_external s o c (ExternalFutureState.Pending b r) a = await_pending s o c r b a
await_external s o c (ExternalFutureState.Resolved v) a = gives s (ready v)
await_external s o c (ExternalFutureState.Failed e) a = gives s (raised e)

-- One item of a gather: polled, or a nested gather that must be committed first.
pub data Item : Type 0 where
  polled : Polled → Item
  nested : Item

-- a task was spawned, or none could be
unfoldable pub polled_spawn : Store → Option Store → Polled
polled_spawn s none = gives s (raised Error.CoroutineReuse)
polled_spawn s (some x) = gives x pending

-- a coroutine is spawned, if it is new and it has no live task
unfoldable pub item_coroutine : Store → ℕ → ℕ → CoroutineState → Polled
item_coroutine s g o CoroutineState.New = polled_spawn s (spawn s o g)
item_coroutine s g o CoroutineState.Running = gives s (raised Error.CoroutineReuse)
item_coroutine s g o CoroutineState.Completed = gives s (raised Error.CoroutineReuse)

-- a gather: nested if it is pending, else polled (poll_settled_gather)
unfoldable pub item_gather : Store → ℕ → GatherState → Item
item_gather s o GatherState.Pending = nested
item_gather s o (GatherState.Awaited a m) = polled (gives s (raised Error.GatherReuse))
item_gather s o GatherState.Completed = polled (gives s (ready (Value.List (heap_id o))))
item_gather s o (GatherState.Failed e) = polled (gives s (raised e))

-- an item that is not open in this gather yet
unfoldable pub item_object : Store → ℕ → ℕ → Object → Item
item_object s g o Object.Unmade = polled (gives s pending)
item_object s g o (Object.Coroutine f x) = polled (item_coroutine s g o x)
item_object s g o (Object.ExternalFuture c x) = polled (await_external s o c x (Awaiter.GatherSlot (heap_id g) (heap_id o)))
item_object s g o (Object.GatherFuture f n x) = item_gather s o x

-- does an open place, one of the k from i on, name the object?
unfoldable pub open_from : (ℕ → Place) → AwaitedGather → ℕ → ℕ → ℕ → Bool
open_from ps w o i zero = false
open_from ps w o i (suc k) = pick (bit w.open_places i && eqb (ps (w.first + i)).item.0 o) true (open_from ps w o (i + 1) k)

-- An item that is open already gets another place and no second task.
unfoldable pub item : Store → ℕ → AwaitedGather → ℕ → Item
item s g w o = pick (open_from (place s) w o 0 w.count) (polled (gives s pending)) (item_object s g o (object s o))

-- ---- the items of one gather

-- place i of gather g is open
unfoldable pub open_place : Store → ℕ → AwaitedGather → ℕ → Store
open_place s g w i =
    put_object s g
    (Object.GatherFuture w.first w.count (GatherState.Awaited w.awaiter (pick (bit w.open_places i) w.open_places (w.open_places + 2 ^ i))))

-- place i has a value
unfoldable pub fill_place : Store → AwaitedGather → ℕ → Value → Store
fill_place s w i v = put_place s (w.first + i) (record { item = (place s (w.first + i)).item; result = Some v })

-- Where the walk through a gather's items stopped: at the end, at a nested gather in a place, at an error.
pub data Stop : Type 0 where
  at_end : Store → Stop
  at_nested : Store → ℕ → ℕ → Stop
  at_error : Store → Error → Stop

-- what an item gave is put into place i; then the walk goes on, or stops
unfoldable pub put_polled : ℕ → AwaitedGather → ℕ → Store → Poll → (Store → Stop) → Stop
put_polled g w i s (ready v) go = go (fill_place s w i v)
put_polled g w i s (raised e) go = at_error s e
put_polled g w i s pending go = go (open_place s g w i)

-- a nested gather stops the walk; what was polled is put
unfoldable pub put_item : ℕ → AwaitedGather → ℕ → ℕ → Store → Item → (Store → Stop) → Stop
put_item g w i o s nested go = at_nested s i o
put_item g w i o s (polled r) go = put_polled g w i r.store r.poll go

-- the item in place i of gather g, where it is awaited; then `go` on
unfoldable pub step_item : ℕ → ℕ → Store → Option AwaitedGather → (Store → Stop) → Stop
step_item g i s none go = at_end s
step_item g i s (some w) go =
    let o : ℕ = (place s (w.first + i)).item.0 in
    put_item g w i o s (item s g w o) go

-- the items of gather g from place i on, k of them, left to right (step_gather_commit)
unfoldable pub step_items : ℕ → Store → ℕ → ℕ → Stop
step_items zero s g i = at_end s
step_items (suc k) s g i = step_item g i s (as_awaited (object s g)) (λ x. step_items k x g (i + 1))

-- A gather on the stack, and its place that is stepped next.
pub record Frame : Type 0 where
  pub gather : ℕ
  pub next : ℕ

-- the items from the frame's next place on
unfoldable pub step_gather_commit : Store → Frame → Stop
step_gather_commit s f = step_items (count_of (object s f.gather) - f.next) s f.gather f.next

-- ---- opening, settling and unwinding

-- a gather's state changed
unfoldable pub with_state : Object → GatherState → Object
with_state Object.Unmade y = Object.Unmade
with_state (Object.Coroutine f x) y = Object.Coroutine f x
with_state (Object.ExternalFuture c x) y = Object.ExternalFuture c x
with_state (Object.GatherFuture f n x) y = Object.GatherFuture f n y

-- gather g's state
unfoldable pub set_gather : Store → ℕ → GatherState → Store
set_gather s g x = put_object s g (with_state (object s g) x)

-- awaited, with no place open yet
unfoldable pub open_gather_commit : Store → ℕ → Awaiter → Store
open_gather_commit s g a = set_gather s g (GatherState.Awaited a 0)

-- Nothing open at the end, empty gather included: completed then, awaiter dropped.
unfoldable pub settle_as : Store → ℕ → Option AwaitedGather → Polled
settle_as s g none = gives s pending
settle_as s g (some w) =
    pick (eqb w.open_places 0) (gives (set_gather s g GatherState.Completed) (ready (Value.List (heap_id g)))) (gives s pending)

-- A gather whose items are all stepped.
unfoldable pub settle_gather_commit : Store → ℕ → Polled
settle_gather_commit s g = settle_as s g (as_awaited (object s g))

-- The nested gather in the frame's next place was settled: the place is filled or open (resume_after_child).
unfoldable pub resume_in : Store → Frame → AwaitedGather → Poll → Store
resume_in s f w (ready v) = fill_place s w f.next v
resume_in s f w (raised e) = s
resume_in s f w pending = open_place s f.gather w f.next

-- as long as the frame is of an awaited gather
unfoldable pub resume_as : Frame → Polled → Option AwaitedGather → Store
resume_as f r none = r.store
resume_as f r (some w) = resume_in r.store f w r.poll

-- the frame's gather as it is now
unfoldable pub resume_after_child : Frame → Polled → Store
resume_after_child f r = resume_as f r (as_awaited (object r.store f.gather))

-- An error marks every gather on the commit stack failed, the innermost first.
unfoldable pub unwind : Store → List Frame → Error → Store
unwind s [] e = s
unwind s (f ∷ fs) e = unwind (set_gather s f.gather (GatherState.Failed e)) fs e

-- ---- the commit

-- The store after a commit, what the await sees, the number of commit steps, and how many gathers were opened and settled.
pub record Committed : Type 0 where
  pub store : Store
  pub poll : Poll
  pub steps : ℕ
  pub opened : ℕ
  pub settled : ℕ

-- A turn opens a nested gather, settles one, or ends in an error; `loop` goes on with a store, the frames, and the counts of
-- steps, of gathers opened and of gathers settled.
module _ (loop : Store → Frame → List Frame → ℕ → ℕ → ℕ → Committed) where
  -- what one turn does with where the walk through the items stopped
  unfoldable pub turn : Frame → List Frame → ℕ → ℕ → ℕ → Stop → Committed
  turn f fs n j k (at_nested s i o) =
      loop (open_gather_commit s o (Awaiter.GatherSlot (heap_id f.gather) (heap_id o)))
      (record { gather = o; next = 0 }) (record { gather = f.gather; next = i } ∷ fs) (suc n) (suc j) k
  turn f fs n j k (at_error s e) = record { store = unwind s (f ∷ fs) e; poll = raised e; steps = suc n; opened = j; settled = k }
  turn f [] n j k (at_end s) =
      let r : Polled = settle_gather_commit s f.gather in
      record { store = r.store; poll = r.poll; steps = suc n; opened = j; settled = suc k }
  turn f (p ∷ ps) n j k (at_end s) =
      loop (resume_after_child p (settle_gather_commit s f.gather)) (record { gather = p.gather; next = p.next + 1 }) ps (suc n) j (suc k)

-- The fuel is twice the pending gathers and the frames: a nested gather opened makes it one less, and so does a gather settled.
-- Without fuel, which no commit is, the turn is an error, so that the step counts hold there too.
unfoldable pub commit_loop : ℕ → Store → Frame → List Frame → ℕ → ℕ → ℕ → Committed
commit_loop zero s f fs n j k =
    turn (λ x g gs m i h. record { store = x; poll = pending; steps = m; opened = i; settled = h }) f fs n j k (at_error s Error.GatherReuse)
commit_loop (suc fuel) s f fs n j k = turn (λ x g gs m i h. commit_loop fuel x g gs m i h) f fs n j k (step_gather_commit s f)

-- how many gathers are pending
unfoldable pub pending_in : List ℕ → ℕ
pending_in os = count_objects (λ r. is_pending_gather (kind r)) os

-- of a store
unfoldable pub pending_count : Store → ℕ
pending_count s = pending_in s.objects

-- Gather g, for its awaiter: opened, then turn by turn.
unfoldable pub commit_gather_tree : Store → ℕ → Awaiter → Committed
commit_gather_tree s g a =
    let x : Store = open_gather_commit s g a in
    commit_loop (2 * pending_count x + 1) x (record { gather = g; next = 0 }) [] 0 1 0
