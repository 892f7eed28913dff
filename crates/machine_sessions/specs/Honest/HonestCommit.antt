-- A commit and an await walked with what each write knows: its gather, its item, and that a coroutine which is spawned is new and has no live task.
use Rattle.std.specs.Prelude.{◌≡◌, Bool, eqb}
use Rattle.std.proofs.Math.Path.{refl, ap}
use Rattle.std.proofs.Common.{◌∙◌, arith, ltb-true}
use Rattle.std.proofs.Math.Bool.{true, false}
use mathlib.Core.List.{List, [], ◌∷◌}
use Rattle.std.proofs.Math.Option.{Option, none, some}
use Prim.Native.Nat.{ℕ, zero, suc, ◌+◌, ◌-◌, ◌≤◌, ◌<◌}
use Rattle.std.proofs.Math.Dec.{ltb}
use Rattle.asyncio.specs.declared.CallId.{CallId}
use Rattle.asyncio.specs.declared.Value.{Value}
use Rattle.asyncio.specs.declared.Error.{Error}
use Rattle.asyncio.specs.Options.{OptionValue}
use Rattle.asyncio.specs.declared.TaskState.{TaskState}
use Rattle.asyncio.specs.declared.Awaiter.{Awaiter}
use Rattle.asyncio.specs.declared.CoroutineState.{CoroutineState}
use Rattle.asyncio.specs.declared.ExternalFutureState.{ExternalFutureState}
use Rattle.asyncio.specs.declared.GatherState.{GatherState}
use Rattle.asyncio.specs.declared.Object.{Object}
use Rattle.asyncio.specs.Limits.{object_limit, task_limit}
use Rattle.asyncio.specs.Numbers.{heap_id}
use Rattle.asyncio.specs.RangeLaws.{pick_has}
use Rattle.asyncio.specs.Parts.{count_of}
use Rattle.asyncio.specs.States.{pick}
use Rattle.machine.specs.Store.{Store, object, place, header, put_object, add_log, set_state, blocked}
use Rattle.machine.specs.Scheduler.{AwaitedGather, as_awaited, task_of, spawn_as, spawn, spawn_unless}
use Rattle.machine.specs.Commit.{Poll, ready, raised, pending, Polled, await_pending, await_external, Item, polled, nested, polled_spawn, item_coroutine, item_gather, item_object, open_from, item}
use Rattle.machine.specs.Commit.{open_place, fill_place, Stop, at_end, at_nested, at_error, put_polled, put_item, step_item, step_items, Frame, step_gather_commit}
use Rattle.machine.specs.Commit.{set_gather, open_gather_commit, settle_as, settle_gather_commit, resume_in, resume_as, resume_after_child, unwind, Committed, turn, commit_loop, commit_gather_tree}
use Rattle.machine.specs.Events.{value, raises, inline, Switched, Awaited, activate, resume_next, stays, go_on, await_coroutine, await_external_future, await_gather, await_object, exec_get_awaitable}
use Rattle.machine_laws.specs.StoreLaws.{place-fits, object_put-other}
use Rattle.machine_sessions.specs.Places.Telling.{not_external}
use Rattle.machine_sessions.specs.Honest.Spawned.{spawn-object}
use Rattle.machine_sessions.specs.Honest.HonestWalk.{Delivers, Switching, Ends, resume-walk}

-- a gather on the stack is completed, or fails
pub data Closes : GatherState → Type 0 where
  as_completed : Closes GatherState.Completed
  as_failed : (e : Error) → Closes (GatherState.Failed e)

-- K is kept by each write of a commit
pub record Committing (K : Store → Type 0) (P Q : ℕ → Type 0) (count : ℕ → ℕ) : Type 0 where
  pub counts : (s : Store) (g : ℕ) → K s → count_of (object s g) ≡ count g
  pub down : (s : Store) (g j : ℕ) (w : AwaitedGather) → as_awaited (object s g) ≡ some w → j < count g → P g → K s → Q (place s (w.first + j)).item.0
  pub nest : (o : ℕ) → Q o → P o
  pub takes : (s : Store) (o : ℕ) (c : CallId) (r : OptionValue) (a : Awaiter) → o < object_limit → object s o ≡ Object.ExternalFuture c (ExternalFutureState.Pending Awaiter.Nobody r) → K s
      → K (put_object s o (Object.ExternalFuture c (ExternalFutureState.Pending a r)))
  pub spawns : (s : Store) (c g f : ℕ) → (header s).next < task_limit → c < object_limit → object s c ≡ Object.Coroutine f CoroutineState.New → task_of s c ≡ none → Q c → K s
      → K (spawn_as s (header s).next c g)
  pub fills : (s : Store) (g j : ℕ) (w : AwaitedGather) (v : Value) → as_awaited (object s g) ≡ some w → j < count g → K s → K (fill_place s w j v)
  pub widens : (s : Store) (g m : ℕ) (w : AwaitedGather) → g < object_limit → as_awaited (object s g) ≡ some w → K s
      → K (put_object s g (Object.GatherFuture w.first w.count (GatherState.Awaited w.awaiter m)))
  pub opens : (s : Store) (g f n : ℕ) (a : Awaiter) → g < object_limit → object s g ≡ Object.GatherFuture f n GatherState.Pending → K s → K (set_gather s g (GatherState.Awaited a 0))
  pub closes : (s : Store) (g : ℕ) (y : GatherState) → g < object_limit → Closes y → K s → K (set_gather s g y)

module _ (K : Store → Type 0) (P Q : ℕ → Type 0) (count : ℕ → ℕ) (kept : Committing K P Q count) where
  -- what is polled of an item of g leaves the gather's row
  record PolledKept (s : Store) (g : ℕ) (r : Polled) : Type 0 where
    still : object r.store g ≡ object s g
    keeps : K r.store

  same : (s : Store) (g : ℕ) (p : Poll) → K s → PolledKept s g (record { store = s; poll = p })
  same s g p k = record { still = refl; keeps = k }

  pub external_walk : (s : Store) (o : ℕ) (c : CallId) (x : ExternalFutureState) (a : Awaiter) → o < object_limit → object s o ≡ Object.ExternalFuture c x → K s → K (await_external s o c x a).store
  unfolding await_external await_pending
  external_walk s o c (ExternalFutureState.Pending Awaiter.Nobody r) a l e k = kept.takes s o c r a l e k
  external_walk s o c (ExternalFutureState.Pending (Awaiter.Task t) r) a l e k = k
  external_walk s o c (ExternalFutureState.Pending (Awaiter.GatherSlot g y) r) a l e k = k
  external_walk s o c (ExternalFutureState.Resolved v) a l e k = k
  external_walk s o c (ExternalFutureState.Failed x) a l e k = k

  await-still : (s : Store) (g o : ℕ) (c : CallId) (x : ExternalFutureState) (a : Awaiter) → (g ≡ o → ⊥) → object (await_external s o c x a).store g ≡ object s g
  unfolding await_external await_pending
  await-still s g o c (ExternalFutureState.Pending Awaiter.Nobody r) a ne = object_put-other s o g _ ne
  await-still s g o c (ExternalFutureState.Pending (Awaiter.Task t) r) a ne = refl
  await-still s g o c (ExternalFutureState.Pending (Awaiter.GatherSlot h x) r) a ne = refl
  await-still s g o c (ExternalFutureState.Resolved v) a ne = refl
  await-still s g o c (ExternalFutureState.Failed x) a ne = refl

  spawn-walk : (s : Store) (g o f : ℕ) → o < object_limit → object s o ≡ Object.Coroutine f CoroutineState.New → Q o → K s → PolledKept s g (polled_spawn s (spawn s o g))
  unfolding spawn
  spawn-walk s g o f lo e q k = by (task_of s o) refl
    where
      room : (b : Bool) → ltb (header s).next task_limit ≡ b → task_of s o ≡ none → PolledKept s g (polled_spawn s (pick b (some (spawn_as s (header s).next o g)) none))
      room true d n = unfold polled_spawn in (record { still = spawn-object s (header s).next o g g; keeps = kept.spawns s o g f (ltb-true _ _ d) lo e n q k })
      room false d n = unfold polled_spawn in (same s g _ k)

      by : (d : Option ℕ) → task_of s o ≡ d → PolledKept s g (polled_spawn s (spawn_unless s o g d))
      by (some t) d = unfold spawn_unless polled_spawn in (same s g _ k)
      by none d = unfold spawn_unless in (room (ltb (header s).next task_limit) refl d)

  -- a pending gather
  abbrev Uncommitted : Store → ℕ → Type 0
  Uncommitted s o = (f : ℕ) × (n : ℕ) × (object s o ≡ Object.GatherFuture f n GatherState.Pending)

  ItemKept : Store → ℕ → ℕ → Item → Type 0
  ItemKept s g o nested = Uncommitted s o
  ItemKept s g o (polled r) = PolledKept s g r

  object-walk : (s : Store) (g o : ℕ) (w : AwaitedGather) (x : Object) → o < object_limit → as_awaited (object s g) ≡ some w → object s o ≡ x → Q o → K s → ItemKept s g o (item_object s g o x)
  unfolding item_object item_gather item_coroutine ItemKept
  object-walk s g o w Object.Unmade l e d q k = same s g _ k
  object-walk s g o w (Object.Coroutine f CoroutineState.New) l e d q k = spawn-walk s g o f l d q k
  object-walk s g o w (Object.Coroutine f CoroutineState.Running) l e d q k = same s g _ k
  object-walk s g o w (Object.Coroutine f CoroutineState.Completed) l e d q k = same s g _ k
  object-walk s g o w (Object.ExternalFuture c x) l e d q k =
      record { still = await-still s g o c x _ (λ y. not_external (object s g) w c x e (ap (object s) y ∙ d)); keeps = external_walk s o c x _ l d k }
  object-walk s g o w (Object.GatherFuture f n GatherState.Pending) l e d q k = (f, n, d)
  object-walk s g o w (Object.GatherFuture f n (GatherState.Awaited a m)) l e d q k = same s g _ k
  object-walk s g o w (Object.GatherFuture f n GatherState.Completed) l e d q k = same s g _ k
  object-walk s g o w (Object.GatherFuture f n (GatherState.Failed x)) l e d q k = same s g _ k

  item-walk : (s : Store) (g : ℕ) (w : AwaitedGather) (o : ℕ) → o < object_limit → as_awaited (object s g) ≡ some w → Q o → K s → ItemKept s g o (item s g w o)
  unfolding item ItemKept
  item-walk s g w o l e q k = pick_has (ItemKept s g o) (open_from (place s) w o 0 w.count) (same s g _ k) (unfold ItemKept in (object-walk s g o w (object s o) l e refl q k))

  StopKept : ℕ → Stop → Type 0
  StopKept g (at_end u) = K u
  StopKept g (at_nested u j o) = K u × (o < object_limit) × Q o × (j < count g) × Uncommitted u o
  StopKept g (at_error u e) = K u

  put-walk : (g : ℕ) (w : AwaitedGather) (j o : ℕ) (go : Store → Stop) → ((u : Store) → K u → StopKept g (go u)) → g < object_limit → o < object_limit → Q o → j < count g
      → (s : Store) (x : Item) → as_awaited (object s g) ≡ some w → K s → ItemKept s g o x → StopKept g (put_item g w j o s x go)
  unfolding put_item StopKept ItemKept
  put-walk g w j o go h lg lo q b s nested e k p = (k, lo, q, b, p)
  put-walk g w j o go h lg lo q b s (polled r) e k p = by r.poll
    where
      row : as_awaited (object r.store g) ≡ some w
      row = ap as_awaited p.still ∙ e

      by : (y : Poll) → StopKept g (put_polled g w j r.store y go)
      by (ready v) = unfold put_polled in (h _ (kept.fills r.store g j w v row b p.keeps))
      by (raised x) = unfold put_polled StopKept in p.keeps
      by pending = unfold put_polled open_place in (h _ (kept.widens r.store g _ w lg row p.keeps))

  items-walk : (m : ℕ) (s : Store) (g j : ℕ) → g < object_limit → P g → m ≤ count g - j → K s → StopKept g (step_items m s g j)
  unfolding step_items step_item StopKept
  items-walk zero s g j l p b k = k
  items-walk (suc m) s g j l p b k = by (as_awaited (object s g)) refl (λ u y. items-walk m u g (j + 1) l p (omega (arith, b)) y)
    where
      by : (a : Option AwaitedGather) → as_awaited (object s g) ≡ a → ((u : Store) → K u → StopKept g (step_items m u g (j + 1))) → StopKept g (step_item g j s a (λ x. step_items m x g (j + 1)))
      by none e h = k
      by (some w) e h =
          let o : ℕ = (place s (w.first + j)).item.0 in
          let low : o < object_limit = (place-fits s (w.first + j)).item_fits in
          let q : Q o = kept.down s g j w e (omega (arith, b)) p k in
          put-walk g w j o (λ x. step_items m x g (j + 1)) h l low q (omega (arith, b)) s (item s g w o) e k (item-walk s g w o low e q k)

  settle-walk : (s : Store) (g : ℕ) → g < object_limit → K s → K (settle_gather_commit s g).store
  unfolding settle_gather_commit
  settle-walk s g l k = by (as_awaited (object s g))
    where
      by : (a : Option AwaitedGather) → K (settle_as s g a).store
      by none = unfold settle_as in k
      by (some w) = unfold settle_as in (pick_has (λ (r : Polled). K r.store) (eqb w.open_places 0) (kept.closes s g GatherState.Completed l as_completed k) k)

  -- a gather on the stack, and its place that is stepped next
  abbrev OnStack : Frame → Type 0
  OnStack f = (f.gather < object_limit) × P f.gather

  -- below the top, its next place is the gather's above it
  Stacked : List Frame → Type 0
  Stacked [] = Unit {0}
  Stacked (f ∷ fs) = OnStack f × (f.next < count f.gather) × Stacked fs

  resume-child-walk : (f : Frame) (r : Polled) → f.gather < object_limit → f.next < count f.gather → K r.store → K (resume_after_child f r)
  unfolding resume_after_child
  resume-child-walk f r l b k = by (as_awaited (object r.store f.gather)) refl
    where
      poll-by : (w : AwaitedGather) → as_awaited (object r.store f.gather) ≡ some w → (p : Poll) → K (resume_in r.store f w p)
      poll-by w e (ready v) = unfold resume_in in (kept.fills r.store f.gather f.next w v e b k)
      poll-by w e (raised x) = unfold resume_in in k
      poll-by w e pending = unfold resume_in open_place in (kept.widens r.store f.gather _ w l e k)

      by : (a : Option AwaitedGather) → as_awaited (object r.store f.gather) ≡ a → K (resume_as f r a)
      by none e = unfold resume_as in k
      by (some w) e = unfold resume_as in (poll-by w e r.poll)

  unwind-rest : (fs : List Frame) (s : Store) (e : Error) → Stacked fs → K s → K (unwind s fs e)
  unfolding unwind Stacked
  unwind-rest [] s e l k = k
  unwind-rest (f ∷ fs) s e l k = unwind-rest fs _ e l.2 (kept.closes s f.gather (GatherState.Failed e) l.0.0 (as_failed e) k)

  unwind-walk : (f : Frame) (fs : List Frame) (s : Store) (e : Error) → OnStack f → Stacked fs → K s → K (unwind s (f ∷ fs) e)
  unfolding unwind
  unwind-walk f fs s e l r k = unwind-rest fs _ e r (kept.closes s f.gather (GatherState.Failed e) l.0 (as_failed e) k)

  turn-walk : (loop : Store → Frame → List Frame → ℕ → ℕ → ℕ → Committed)
      → ((s : Store) (f : Frame) (fs : List Frame) (n j i : ℕ) → OnStack f → Stacked fs → K s → K (loop s f fs n j i).store)
      → (f : Frame) (fs : List Frame) (n j i : ℕ) (x : Stop) → OnStack f → Stacked fs → StopKept f.gather x → K (turn loop f fs n j i x).store
  unfolding turn StopKept open_gather_commit Stacked
  turn-walk loop h f fs n j i (at_nested s p o) l r k =
      h _ _ _ (suc n) (suc j) i (k.1, kept.nest o k.2) (l, k.3, r) (kept.opens s o k.4.0 k.4.1 _ k.1 k.4.2 k.0)
  turn-walk loop h f fs n j i (at_error s e) l r k = unwind-walk f fs s e l r k
  turn-walk loop h f [] n j i (at_end s) l r k = settle-walk s f.gather l.0 k
  turn-walk loop h f (p ∷ ps) n j i (at_end s) l r k = h _ _ _ (suc n) j (suc i) r.0 r.2 (resume-child-walk p _ r.0.0 r.1 (settle-walk s f.gather l.0 k))

  loop-walk : (fuel : ℕ) (s : Store) (f : Frame) (fs : List Frame) (n j i : ℕ) → OnStack f → Stacked fs → K s → K (commit_loop fuel s f fs n j i).store
  unfolding commit_loop step_gather_commit
  loop-walk zero s f fs n j i l r k =
      turn-walk (λ x g gs m a h. record { store = x; poll = pending; steps = m; opened = a; settled = h }) (λ x g gs m a h y z v. v) f fs n j i (at_error s Error.GatherReuse) l r (unfold StopKept in k)
  loop-walk (suc fuel) s f fs n j i l r k =
      turn-walk (λ x g gs m a h. commit_loop fuel x g gs m a h) (λ x g gs m a h. loop-walk fuel x g gs m a h) f fs n j i _ l r
      (items-walk _ s f.gather f.next l.0 l.1 (omega (arith, kept.counts s f.gather k)) k)

  -- a pending gather is committed
  pub commit_walk : (s : Store) (g f n : ℕ) (a : Awaiter) → g < object_limit → object s g ≡ Object.GatherFuture f n GatherState.Pending → P g → K s → K (commit_gather_tree s g a).store
  unfolding commit_gather_tree open_gather_commit
  commit_walk s g f n a l e p k = loop-walk _ _ _ [] 0 1 0 (l, p) (unfold Stacked in tt) (kept.opens s g f n a l e k)

-- ---- await, by the running task t: J holds until it blocks, K from there on

-- an await ends in the same task, with a value or an error or running a coroutine inline; or in a switch
pub data AwaitEnds (J K : Store → Type 0) (t o : ℕ) (x : Awaited) : Type 0 where
  given : (u : Store) (v : Value) (n : ℕ) → J u → x ≡ stays u t (value v) n → AwaitEnds J K t o x
  refused : (u : Store) (e : Error) (n : ℕ) → J u → x ≡ stays u t (raises e) n → AwaitEnds J K t o x
  inlined : (u : Store) (f : ℕ) → J u → object u o ≡ Object.Coroutine f CoroutineState.New → x ≡ stays (put_object u o (Object.Coroutine f CoroutineState.Running)) t (inline o) 0 → AwaitEnds J K t o x
  switches : (y : Switched) → Ends K y → x.store ≡ y.store → x.control ≡ y.control → AwaitEnds J K t o x

module _ (J K : Store → Type 0) (A : Awaiter → Type 0) (P Q : ℕ → Type 0) (count : ℕ → ℕ) (first : Committing J P Q count) (then : Delivers K A) (switch : Switching K A)
    (t o : ℕ) (low : o < object_limit) (top : P o) (blocks : (u : Store) → J u → K (add_log (set_state u t (TaskState.Blocked (heap_id o))) (blocked t))) where
  go-on-walk : (n : ℕ) (u : Store) (p : Poll) → J u → AwaitEnds J K t o (go_on t o n u p)
  unfolding go_on
  go-on-walk n u (ready v) k = given u v n k refl
  go-on-walk n u (raised e) k = refused u e n k refl
  go-on-walk n u pending k =
      switches (resume_next activate (add_log (set_state u t (TaskState.Blocked (heap_id o))) (blocked t))) (resume-walk K A then switch _ (blocks u k)) refl refl

  await-by : (s : Store) (x : Object) → object s o ≡ x → (x ≡ Object.Unmade → ⊥) → J s → AwaitEnds J K t o (await_object s t o x)
  unfolding await_object await_coroutine await_external_future await_gather
  await-by s Object.Unmade e m k = absurd (m refl)
  await-by s (Object.Coroutine f CoroutineState.New) e m k = inlined s f k e refl
  await-by s (Object.Coroutine f CoroutineState.Running) e m k = refused s Error.CoroutineReuse 0 k refl
  await-by s (Object.Coroutine f CoroutineState.Completed) e m k = refused s Error.CoroutineReuse 0 k refl
  await-by s (Object.ExternalFuture c x) e m k = go-on-walk 0 _ _ (external_walk J P Q count first s o c x _ low e k)
  await-by s (Object.GatherFuture f n GatherState.Pending) e m k = go-on-walk _ _ _ (commit_walk J P Q count first s o f n _ low e top k)
  await-by s (Object.GatherFuture f n (GatherState.Awaited a j)) e m k = refused s Error.GatherReuse 0 k refl
  await-by s (Object.GatherFuture f n GatherState.Completed) e m k = given s (Value.List (heap_id o)) 0 k refl
  await-by s (Object.GatherFuture f n (GatherState.Failed x)) e m k = refused s x 0 k refl

  -- the running task awaits an object that is made
  pub await-walk : (s : Store) → (object s o ≡ Object.Unmade → ⊥) → J s → AwaitEnds J K t o (exec_get_awaitable s t o)
  unfolding exec_get_awaitable
  await-walk s m k = await-by s (object s o) refl m k
