-- The commit (Commit) with the Rust's panics in it: where the Rust panics, whatever a panic does stands in the place of the harmless branch;
-- where the machine has no such branch, the test that the Rust makes stands before what the machine does. Each definition has the machine's
-- name for it in its comment, and is that definition but for the panics.
use Rattle.std.specs.Prelude.{ℕ, zero, suc, ◌+◌, ◌-◌, ◌*◌, List, [], ◌∷◌, eqb, ltb}
use Rattle.std.proofs.Math.Option.{Option, none, some}
use Rattle.asyncio.specs.declared.Value.{Value}
use Rattle.asyncio.specs.declared.Error.{Error}
use Rattle.asyncio.specs.declared.Awaiter.{Awaiter}
use Rattle.asyncio.specs.declared.CoroutineState.{CoroutineState}
use Rattle.asyncio.specs.declared.GatherState.{GatherState}
use Rattle.asyncio.specs.declared.Object.{Object}
use Rattle.asyncio.specs.Limits.{task_limit}
use Rattle.asyncio.specs.Numbers.{heap_id}
use Rattle.asyncio.specs.States.{pick}
use Rattle.machine.specs.Store.{Store, object, place, header, put_object}
use Rattle.machine.specs.Scheduler.{AwaitedGather, as_awaited, task_of, spawn_as}
use Rattle.machine.specs.Commit.{Poll, ready, raised, pending, Polled, gives, await_external, Item, polled, nested, item_gather, open_from, open_place, fill_place}
use Rattle.machine.specs.Commit.{Stop, at_end, at_nested, at_error, Frame, Committed, pending_count}
use Rattle.machine.specs.Sound.{rest_filled}
use Rattle.machine_theorems.specs.Panics.Panic.{Panics}

module _ (panic : Panics) where
  -- ---- one item

  -- `spawn` and `polled_spawn`, by the live task of the coroutine: a number is left for a new task (no panic of the Rust, whose counter is not tested)
  unfoldable pub spawn_or_panic : Store → ℕ → ℕ → Option ℕ → Polled
  spawn_or_panic s c g (some t) = gives s (raised Error.CoroutineReuse)
  spawn_or_panic s c g none = pick (ltb (header s).next task_limit) (gives (spawn_as s (header s).next c g) pending) (panic.polled s)

  -- `item_coroutine`
  unfoldable pub coroutine_or_panic : Store → ℕ → ℕ → CoroutineState → Polled
  coroutine_or_panic s g o CoroutineState.New = spawn_or_panic s o g (task_of s o)
  coroutine_or_panic s g o CoroutineState.Running = gives s (raised Error.CoroutineReuse)
  coroutine_or_panic s g o CoroutineState.Completed = gives s (raised Error.CoroutineReuse)

  -- `item_object`: an item is a coroutine, an external or a gather (async_exec.rs:278)
  unfoldable pub object_or_panic : Store → ℕ → ℕ → Object → Item
  object_or_panic s g o Object.Unmade = panic.item s
  object_or_panic s g o (Object.Coroutine f x) = polled (coroutine_or_panic s g o x)
  object_or_panic s g o (Object.ExternalFuture c x) = polled (await_external s o c x (Awaiter.GatherSlot (heap_id g) (heap_id o)))
  object_or_panic s g o (Object.GatherFuture f n x) = item_gather s o x

  -- `item`
  unfoldable pub item_or_panic : Store → ℕ → AwaitedGather → ℕ → Item
  item_or_panic s g w o = pick (open_from (place s) w o 0 w.count) (polled (gives s pending)) (object_or_panic s g o (object s o))

  -- ---- the items of one gather

  -- `put_polled`: `results[idx]` (async_exec.rs:282)
  unfoldable pub put_polled_or_panic : ℕ → AwaitedGather → ℕ → Store → Poll → (Store → Stop) → Stop
  put_polled_or_panic g w i s (ready v) go = pick (ltb i w.count) (go (fill_place s w i v)) (panic.stop s)
  put_polled_or_panic g w i s (raised e) go = at_error s e
  put_polled_or_panic g w i s pending go = go (open_place s g w i)

  -- `put_item`
  unfoldable pub put_item_or_panic : ℕ → AwaitedGather → ℕ → ℕ → Store → Item → (Store → Stop) → Stop
  put_item_or_panic g w i o s nested go = at_nested s i o
  put_item_or_panic g w i o s (polled r) go = put_polled_or_panic g w i r.store r.poll go

  -- `step_item`: the frame's gather is one in the midst of its commit (async_exec.rs:225), `items[idx]` (231)
  unfoldable pub step_item_or_panic : ℕ → ℕ → Store → Option AwaitedGather → (Store → Stop) → Stop
  step_item_or_panic g i s none go = panic.stop s
  step_item_or_panic g i s (some w) go =
      let o : ℕ = (place s (w.first + i)).item.0 in
      pick (ltb i w.count) (put_item_or_panic g w i o s (item_or_panic s g w o) go) (panic.stop s)

  -- `step_items`
  unfoldable pub items_or_panic : ℕ → Store → ℕ → ℕ → Stop
  items_or_panic zero s g i = at_end s
  items_or_panic (suc k) s g i = step_item_or_panic g i s (as_awaited (object s g)) (λ x. items_or_panic k x g (i + 1))

  -- `step_gather_commit`, of the frame's object: it is a gather (async_exec.rs:225)
  unfoldable pub frame_or_panic : Store → Frame → Object → Stop
  frame_or_panic s f Object.Unmade = panic.stop s
  frame_or_panic s f (Object.Coroutine c x) = panic.stop s
  frame_or_panic s f (Object.ExternalFuture c x) = panic.stop s
  frame_or_panic s f (Object.GatherFuture i n x) = items_or_panic (n - f.next) s f.gather f.next

  -- ---- opening, settling and unwinding

  -- `set_gather`, of object g: it is a gather (async_exec.rs:202, 301, 334)
  unfoldable pub set_or_panic : Store → ℕ → GatherState → Object → Store
  set_or_panic s g y Object.Unmade = panic.store s
  set_or_panic s g y (Object.Coroutine f x) = panic.store s
  set_or_panic s g y (Object.ExternalFuture c x) = panic.store s
  set_or_panic s g y (Object.GatherFuture f n x) = put_object s g (Object.GatherFuture f n y)

  -- `open_gather_commit` (async_exec.rs:202)
  unfoldable pub open_or_panic : Store → ℕ → Awaiter → Store
  open_or_panic s g a = set_or_panic s g (GatherState.Awaited a 0) (object s g)

  -- `settle_as`: it is a gather in the midst of its commit (async_exec.rs:301); one that completes has all its results (308)
  unfoldable pub settle_as_or_panic : Store → ℕ → Option AwaitedGather → Polled
  settle_as_or_panic s g none = panic.polled s
  settle_as_or_panic s g (some w) =
      pick (eqb w.open_places 0)
      (pick (rest_filled (place s) w.first w.count 0)
      (gives (set_or_panic s g GatherState.Completed (object s g)) (ready (Value.List (heap_id g))))
      (panic.polled s))
      (gives s pending)

  -- `settle_gather_commit`
  unfoldable pub settle_or_panic : Store → ℕ → Polled
  settle_or_panic s g = settle_as_or_panic s g (as_awaited (object s g))

  -- `resume_in`: `results[slot]` (async_exec.rs:984)
  unfoldable pub resume_in_or_panic : Store → Frame → AwaitedGather → Poll → Store
  resume_in_or_panic s f w (ready v) = pick (ltb f.next w.count) (fill_place s w f.next v) (panic.store s)
  resume_in_or_panic s f w (raised e) = s
  resume_in_or_panic s f w pending = open_place s f.gather w f.next

  -- `resume_as`: the parent is in the midst of its commit (no panic of the Rust, whose frame has the results itself)
  unfoldable pub resume_as_or_panic : Frame → Polled → Option AwaitedGather → Store
  resume_as_or_panic f r none = panic.store r.store
  resume_as_or_panic f r (some w) = resume_in_or_panic r.store f w r.poll

  -- `resume_after_child`
  unfoldable pub resume_child_or_panic : Frame → Polled → Store
  resume_child_or_panic f r = resume_as_or_panic f r (as_awaited (object r.store f.gather))

  -- `unwind` (async_exec.rs:334)
  unfoldable pub unwind_or_panic : Store → List Frame → Error → Store
  unwind_or_panic s [] e = s
  unwind_or_panic s (f ∷ fs) e = unwind_or_panic (set_or_panic s f.gather (GatherState.Failed e) (object s f.gather)) fs e

  -- ---- the commit

  -- `turn`
  unfoldable pub turn_or_panic : (Store → Frame → List Frame → ℕ → ℕ → ℕ → Committed) → Frame → List Frame → ℕ → ℕ → ℕ → Stop → Committed
  turn_or_panic loop f fs n j k (at_nested s i o) =
      loop (open_or_panic s o (Awaiter.GatherSlot (heap_id f.gather) (heap_id o)))
      (record { gather = o; next = 0 }) (record { gather = f.gather; next = i } ∷ fs) (suc n) (suc j) k
  turn_or_panic loop f fs n j k (at_error s e) = record { store = unwind_or_panic s (f ∷ fs) e; poll = raised e; steps = suc n; opened = j; settled = k }
  turn_or_panic loop f [] n j k (at_end s) =
      let r : Polled = settle_or_panic s f.gather in
      record { store = r.store; poll = r.poll; steps = suc n; opened = j; settled = suc k }
  turn_or_panic loop f (p ∷ ps) n j k (at_end s) =
      loop (resume_child_or_panic p (settle_or_panic s f.gather)) (record { gather = p.gather; next = p.next + 1 }) ps (suc n) j (suc k)

  -- `commit_loop`; the Rust's loop has no fuel: that it ends here is a panic too
  unfoldable pub loop_or_panic : ℕ → Store → Frame → List Frame → ℕ → ℕ → ℕ → Committed
  loop_or_panic zero s f fs n j k = panic.committed s
  loop_or_panic (suc fuel) s f fs n j k =
      turn_or_panic (λ x g gs m i h. loop_or_panic fuel x g gs m i h) f fs n j k (frame_or_panic s f (object s f.gather))

  -- `commit_gather_tree`
  unfoldable pub commit_or_panic : Store → ℕ → Awaiter → Committed
  commit_or_panic s g a =
      let x : Store = open_or_panic s g a in
      loop_or_panic (2 * pending_count x + 1) x (record { gather = g; next = 0 }) [] 0 1 0
