-- `Told` through a commit and an await.
use Rattle.std.specs.Prelude.{◌≡◌, Bool, not, ◌&&◌, eqb, length, get_or}
use Rattle.std.proofs.Math.Path.{refl, sym, ap, subst}
use Rattle.std.proofs.Common.{◌∙◌, true≢false, arith, not-suc-le-zero, ltb-true}
use Rattle.std.proofs.Math.Bool.{true, false}
use mathlib.Core.List.{List, [], ◌∷◌}
use Rattle.std.proofs.Math.Option.{Option, none, some, some-injective}
use Prim.Native.Nat.{ℕ, zero, suc, ◌+◌, ◌-◌, ◌≤◌, ◌<◌}
use Rattle.std.proofs.Math.Decide.{ℕ_discrete}
use Rattle.std.proofs.Math.Dec.{ltb}
use Rattle.asyncio.specs.declared.HeapId.{HeapId}
use Rattle.asyncio.specs.declared.CallId.{CallId}
use Rattle.asyncio.specs.declared.Value.{Value}
use Rattle.asyncio.specs.declared.Error.{Error}
use Rattle.asyncio.specs.declared.TaskState.{TaskState}
use Rattle.asyncio.specs.declared.Task.{Task}
use Rattle.asyncio.specs.declared.Awaiter.{Awaiter}
use Rattle.asyncio.specs.declared.CoroutineState.{CoroutineState}
use Rattle.asyncio.specs.declared.ExternalFutureState.{ExternalFutureState}
use Rattle.asyncio.specs.declared.GatherState.{GatherState}
use Rattle.asyncio.specs.declared.Object.{Object}
use Rattle.asyncio.specs.declared.Moment.{Moment}
use Rattle.asyncio.specs.Limits.{object_limit, task_limit, place_limit}
use Rattle.asyncio.specs.Numbers.{heap_id, task_id}
use Rattle.asyncio.specs.Ranges.{AwaiterFits, ValueFits, PlacesFit, ObjectFits}
use Rattle.asyncio.specs.RangeLaws.{pick_has}
use Rattle.asyncio.specs.Parts.{awaiter_of, count_of}
use Rattle.asyncio.specs.States.{pick, is_live, is_ready, is_blocked, is_unstarted}
use Rattle.queue.specs.Queue.{front_of, pop_front, empty_queue}
use Rattle.queue.proofs.QueueLaws.{front_of-fits}
use Rattle.machine.specs.Store.{Store, task, object, place, header, put_task, put_object, put_places, put_queue, add_log, set_state, set_moment, set_next, absent, blocked, reached, exited, removed}
use Rattle.machine.specs.Scheduler.{AwaitedGather, as_awaited, is_some, bit, task_of, live_count, remove_from_ready_queue, spawn_as, spawn, spawn_unless, remove_task, make_ready, push_ready, cancel_one}
use Rattle.machine.specs.Scheduler.{Walk, reach_if, reach, remove_blocked, visit_by, visit, visit_place, visit_open, walk_gather, walk_next, walk, walk_from, cancel_task, remove_from, cleanup}
use Rattle.machine.specs.Delivery.{Delivery, nobody_woken, deliver_to_task, Filled, fill_from, Settled, resolve_left, resolve_awaited, resolve_child, fail_awaited, fail_gather}
use Rattle.machine.specs.Delivery.{climb, awaited_count, send_value, climb_value, deliver_awaiter_success, send_error, climb_error, deliver_awaiter_failure}
use Rattle.machine.specs.Commit.{Poll, ready, raised, pending, Polled, gives, await_pending, await_external, Item, polled, nested, polled_spawn, item_coroutine, item_gather, item_object, open_from, item}
use Rattle.machine.specs.Commit.{open_place, fill_place, Stop, at_end, at_nested, at_error, put_polled, put_item, step_item, step_items, Frame, step_gather_commit}
use Rattle.machine.specs.Commit.{with_state, set_gather, open_gather_commit, settle_as, settle_gather_commit, resume_in, resume_as, resume_after_child, unwind, Committed, turn, commit_loop, commit_gather_tree}
use Rattle.machine.specs.Events.{How, start, value, raises, inline, Switched, Awaited, run, yield, new_function, resume_next, resume_after_task_exit, handle_task_failure}
use Rattle.machine.specs.Events.{start_by, start_task, activate_state, activate_within, activate, stays, go_on, await_coroutine, await_external_future, await_gather, await_object, exec_get_awaitable}
use Rattle.machine_laws.specs.Views.{Sized}
use Rattle.machine_laws.specs.StoreLaws.{task-fits, object-fits, place-fits, header-fits, object_put-other, object_put-header}
use Rattle.machine_laws.specs.DeliveryLaws.{absurd_some, awaited-object, awaited-fits, length-fill_from, resolve_sent, fail_sent}
use Rattle.machine_laws.specs.WokenLaws.{WokenFits, success_woken, failure_woken}
use Rattle.machine_laws.specs.Walk.{Turns, same, takes, starts, turns}
use Rattle.machine_sessions.specs.Places.Told.{Frozen, unmade, co, pends, gave, broke, many, frozen, told, first_place, EndsTask, TaskTold, Holds, Told, Gives, row_told, turns-told, value-told, fills_told, queue_told, add_log-told, moved_told, gone-told, ends-told, state_told, wakes-told, spawns-told}
use Rattle.machine_sessions.specs.Places.Told.{place_count}
use Rattle.machine_sessions.specs.Places.Telling.{awaited-turns, state_turns, StateOwn, gather_own, state_own, awaited_own, new-object, not_external, many-gives, new_undelivered, EndsOrReuse, resume-ends}

module _ (q : ℕ → Frozen) (n : ℕ) (i : ℕ → ℕ) (D : ℕ → Option Value) (S : ℕ → Option ℕ) (done : (c : ℕ) (v : Value) → D c ≡ some v → q c ≡ co true) where
  abbrev K : Store → Type 0
  K u = Told q n i D S u

  -- the places of an awaited gather are as at its making
  spots : (s : Store) (g : ℕ) (w : AwaitedGather) → as_awaited (object s g) ≡ some w → K s → q g ≡ many w.first w.count
  unfolding frozen
  spots s g w e k = sym (k.rows g) ∙ ap frozen (awaited-object (object s g) w e)

  spot : (s : Store) (g : ℕ) (w : AwaitedGather) → as_awaited (object s g) ≡ some w → K s → (w.first ≡ first_place (q g)) × (w.count ≡ place_count (q g))
  unfolding first_place place_count
  spot s g w e k = (sym (ap first_place (spots s g w e k)), sym (ap place_count (spots s g w e k)))

  -- what is polled of item o of g leaves the gather's row, and a value is the item's
  record PolledTold (s : Store) (g o : ℕ) (r : Polled) : Type 0 where
    still : object r.store g ≡ object s g
    keeps : K r.store
    given : (v : Value) → r.poll ≡ ready v → Gives q D o v

  abbrev NotReady : Poll → Type 0
  NotReady (ready v) = ⊥
  NotReady (raised e) = Unit {0}
  NotReady pending = Unit {0}

  not-ready : {A : Type 0} (p : Poll) (v : Value) → NotReady p → p ≡ ready v → A
  not-ready p v m e = absurd (subst NotReady e m)

  quiet : (s : Store) (g o : ℕ) (r : Polled) → r.store ≡ s → NotReady r.poll → K s → PolledTold s g o r
  quiet s g o r e m k = record { still = ap (λ (u : Store). object u g) e; keeps = subst K (sym e) k; given = λ v d. not-ready r.poll v m d }

  ready-is : (v w : Value) → ready v ≡ ready w → v ≡ w
  ready-is v w e = cc

  external-tells : (s : Store) (g o : ℕ) (c : CallId) (x : ExternalFutureState) (a : Awaiter) → o < object_limit → (g ≡ o → ⊥) → EndsTask o a → object s o ≡ Object.ExternalFuture c x → K s
      → PolledTold s g o (await_external s o c x a)
  unfolding await_external await_pending awaiter_of
  external-tells s g o c (ExternalFutureState.Pending Awaiter.Nobody r) a l ne w e k =
      record {
        still = object_put-other s o g _ ne;
        keeps = turns-told q n i D S s o _ l (subst (λ (x : Object). Turns x (Object.ExternalFuture c (ExternalFutureState.Pending a r))) (sym e) (takes c r a)) w k;
        given = λ v d. not-ready pending v tt d;
      }
  external-tells s g o c (ExternalFutureState.Pending (Awaiter.Task t) r) a l ne w e k = quiet s g o _ refl tt k
  external-tells s g o c (ExternalFutureState.Pending (Awaiter.GatherSlot h x) r) a l ne w e k = quiet s g o _ refl tt k
  external-tells s g o c (ExternalFutureState.Resolved v) a l ne w e k =
      record {
        still = refl;
        keeps = k;
        given = λ x d. subst (Gives q D o) (ready-is v x d) (record { tells = ap (told D o) (sym (k.rows o) ∙ ap frozen e) ∙ (unfold told frozen in refl); fits = (subst ObjectFits e (object-fits s o)).1 });
      }
  external-tells s g o c (ExternalFutureState.Failed x) a l ne w e k = quiet s g o _ refl tt k

  pub external_keeps : (s : Store) (o : ℕ) (c : CallId) (x : ExternalFutureState) (a : Awaiter) → o < object_limit → EndsTask o a → object s o ≡ Object.ExternalFuture c x → K s → K (await_external s o c x a).store
  external_keeps s o c x a l w e k = (external-tells s (suc o) o c x a l (λ d. not-suc-le-zero {n = 0} (omega (arith, d))) w e k).keeps

  spawn-commits-none : (s : Store) (t c p g : ℕ) → object (spawn_as s t c p) g ≡ object s g
  unfolding spawn_as push_ready add_log put_queue object
  spawn-commits-none s t c p g = unfold object in (moved_row (put_task s t _) (t + 1)) ∙ (unfold object put_task in refl)
    where
      moved_row : (u : Store) (m : ℕ) → object (set_next u m) g ≡ object u g
      moved_row u m = unfold set_next in (object_put-header u _ g)

  spawn-tells : (s : Store) (g o p : ℕ) → o < object_limit → D o ≡ none → K s → PolledTold s g o (polled_spawn s (spawn s o p))
  unfolding spawn
  spawn-tells s g o p l e k = by (task_of s o)
    where
      room : (b : Bool) → ltb (header s).next task_limit ≡ b → PolledTold s g o (polled_spawn s (pick b (some (spawn_as s (header s).next o p)) none))
      room true d = unfold polled_spawn in
          (record { still = spawn-commits-none s (header s).next o p g; keeps = spawns-told q n i D S s o p (ltb-true _ _ d) l e k; given = λ v y. not-ready pending v tt y })
      room false d = unfold polled_spawn in (quiet s g o _ refl tt k)

      by : (d : Option ℕ) → PolledTold s g o (polled_spawn s (spawn_unless s o p d))
      by (some t) = unfold spawn_unless polled_spawn in (quiet s g o _ refl tt k)
      by none = unfold spawn_unless in (room (ltb (header s).next task_limit) refl)

  ItemTold : Store → ℕ → ℕ → Item → Type 0
  ItemTold s g o nested = Unit {0}
  ItemTold s g o (polled r) = PolledTold s g o r

  object-tells : (s : Store) (g o : ℕ) (w : AwaitedGather) (x : Object) → o < object_limit → as_awaited (object s g) ≡ some w → object s o ≡ x → K s → ItemTold s g o (item_object s g o x)
  unfolding item_object item_gather item_coroutine ItemTold
  object-tells s g o w Object.Unmade l e d k = quiet s g o _ refl tt k
  object-tells s g o w (Object.Coroutine f CoroutineState.New) l e d k = spawn-tells s g o g l (new_undelivered q n i D S done s o f d k) k
  object-tells s g o w (Object.Coroutine f CoroutineState.Running) l e d k = quiet s g o _ refl tt k
  object-tells s g o w (Object.Coroutine f CoroutineState.Completed) l e d k = quiet s g o _ refl tt k
  object-tells s g o w (Object.ExternalFuture c x) l e d k = external-tells s g o c x _ l (λ y. not_external (object s g) w c x e (ap (object s) y ∙ d)) refl d k
  object-tells s g o w (Object.GatherFuture f m GatherState.Pending) l e d k = tt
  object-tells s g o w (Object.GatherFuture f m (GatherState.Awaited a j)) l e d k = quiet s g o _ refl tt k
  object-tells s g o w (Object.GatherFuture f m GatherState.Completed) l e d k =
      record { still = refl; keeps = k; given = λ x y. subst (Gives q D o) (ready-is (Value.List (heap_id o)) x y) (many-gives q n i D S s o f m GatherState.Completed l d k) }
  object-tells s g o w (Object.GatherFuture f m (GatherState.Failed x)) l e d k = quiet s g o _ refl tt k

  item-tells : (s : Store) (g : ℕ) (w : AwaitedGather) (o : ℕ) → o < object_limit → as_awaited (object s g) ≡ some w → K s → ItemTold s g o (item s g w o)
  unfolding item ItemTold
  item-tells s g w o l e k = pick_has (ItemTold s g o) (open_from (place s) w o 0 w.count) (quiet s g o _ refl tt k) (unfold ItemTold in (object-tells s g o w (object s o) l e refl k))

  -- place j of gather g names o
  abbrev Names : ℕ → ℕ → ℕ → Type 0
  Names g j o = (i (first_place (q g) + j) ≡ o) × (j < place_count (q g))

  StopTold : ℕ → Stop → Type 0
  StopTold g (at_end u) = K u
  StopTold g (at_nested u j o) = K u × (o < object_limit) × Names g j o
  StopTold g (at_error u e) = K u

  -- a place that names o gets its value
  fill-tells : (s : Store) (g : ℕ) (w : AwaitedGather) (j o : ℕ) (v : Value) → as_awaited (object s g) ≡ some w → Names g j o → Gives q D o v → K s → K (fill_place s w j v)
  unfolding fill_place
  fill-tells s g w j o v e nm gv k =
      let sp = spot s g w e k in
      value-told q n i D S s (w.first + j) v (omega (arith, (awaited-fits s g w e).0.within, nm.1, sp.1))
      (subst (λ (m : ℕ). Gives q D m v) (sym (k.items (w.first + j) ∙ (ap (λ (m : ℕ). i (m + j)) sp.0 ∙ nm.0))) gv) k

  open-tells : (s : Store) (g : ℕ) (w : AwaitedGather) (j : ℕ) → g < object_limit → as_awaited (object s g) ≡ some w → K s → K (open_place s g w j)
  unfolding open_place
  open-tells s g w j l e k = turns-told q n i D S s g _ l (awaited-turns (object s g) w _ e) (gather_own g _ _ (GatherState.Awaited w.awaiter _) (awaited_own g (object s g) w e (k.own g))) k

  put-tells : (g : ℕ) (w : AwaitedGather) (j o : ℕ) (go : Store → Stop) → ((u : Store) → K u → StopTold g (go u)) → g < object_limit → o < object_limit → Names g j o
      → (s : Store) (x : Item) → as_awaited (object s g) ≡ some w → K s → ItemTold s g o x → StopTold g (put_item g w j o s x go)
  unfolding put_item StopTold ItemTold
  put-tells g w j o go h lg lo nm s nested e k p = (k, lo, nm)
  put-tells g w j o go h lg lo nm s (polled r) e k p = by r.poll refl
    where
      row : as_awaited (object r.store g) ≡ some w
      row = ap as_awaited p.still ∙ e

      by : (y : Poll) → r.poll ≡ y → StopTold g (put_polled g w j r.store y go)
      by (ready v) d = unfold put_polled in (h _ (fill-tells r.store g w j o v row nm (p.given v d) p.keeps))
      by (raised x) d = unfold put_polled StopTold in p.keeps
      by pending d = unfold put_polled in (h _ (open-tells r.store g w j lg row p.keeps))

  items-tell : (m : ℕ) (s : Store) (g j : ℕ) → g < object_limit → m ≤ place_count (q g) - j → K s → StopTold g (step_items m s g j)
  unfolding step_items step_item StopTold
  items-tell zero s g j l b k = k
  items-tell (suc m) s g j l b k = by (as_awaited (object s g)) refl (λ u y. items-tell m u g (j + 1) l (omega (arith, b)) y)
    where
      by : (a : Option AwaitedGather) → as_awaited (object s g) ≡ a → ((u : Store) → K u → StopTold g (step_items m u g (j + 1))) → StopTold g (step_item g j s a (λ x. step_items m x g (j + 1)))
      by none e h = k
      by (some w) e h =
          let o : ℕ = (place s (w.first + j)).item.0 in
          let low : o < object_limit = (place-fits s (w.first + j)).item_fits in
          let nm : Names g j o = (sym (k.items (w.first + j) ∙ ap (λ (y : ℕ). i (y + j)) (spot s g w e k).0), omega (arith, b)) in
          put-tells g w j o (λ x. step_items m x g (j + 1)) h l low nm s (item s g w o) e k (item-tells s g w o low e k)

  set_tells : (s : Store) (g : ℕ) (y : GatherState) → g < object_limit → StateOwn g y → K s → K (set_gather s g y)
  unfolding set_gather
  set_tells s g y l w k = turns-told q n i D S s g _ l (state_turns (object s g) y) (state_own g (object s g) y (k.own g) w) k

  record SettledTold (g : ℕ) (r : Polled) : Type 0 where
    keeps : K r.store
    given : (v : Value) → r.poll ≡ ready v → Gives q D g v

  settle-tells : (s : Store) (g : ℕ) → g < object_limit → K s → SettledTold g (settle_gather_commit s g)
  unfolding settle_gather_commit
  settle-tells s g l k = by (as_awaited (object s g)) refl
    where
      by : (a : Option AwaitedGather) → as_awaited (object s g) ≡ a → SettledTold g (settle_as s g a)
      by none e = unfold settle_as in (record { keeps = k; given = λ v d. not-ready pending v tt d })
      by (some w) e = unfold settle_as in (pick_has (SettledTold g) (eqb w.open_places 0)
          (record { keeps = set_tells s g GatherState.Completed l tt k; given = λ v d. subst (Gives q D g) (ready-is (Value.List (heap_id g)) v d) (many-gives q n i D S s g w.first w.count _ l (awaited-object (object s g) w e) k) })
          (record { keeps = k; given = λ v d. not-ready pending v tt d }))

  resume-tells : (f : Frame) (o : ℕ) (r : Polled) → f.gather < object_limit → Names f.gather f.next o → SettledTold o r → K (resume_after_child f r)
  unfolding resume_after_child
  resume-tells f o r l nm k = by (as_awaited (object r.store f.gather)) refl
    where
      poll-by : (w : AwaitedGather) → as_awaited (object r.store f.gather) ≡ some w → (p : Poll) → r.poll ≡ p → K (resume_in r.store f w p)
      poll-by w e (ready v) d = unfold resume_in in (fill-tells r.store f.gather w f.next o v e nm (k.given v d) k.keeps)
      poll-by w e (raised x) d = unfold resume_in in k.keeps
      poll-by w e pending d = unfold resume_in in (open-tells r.store f.gather w f.next l e k.keeps)

      by : (a : Option AwaitedGather) → as_awaited (object r.store f.gather) ≡ a → K (resume_as f r a)
      by none e = unfold resume_as in k.keeps
      by (some w) e = unfold resume_as in (poll-by w e r.poll refl)

  -- the frames are of objects, and each names the one above it
  Linked : ℕ → List Frame → Type 0
  Linked g [] = g < object_limit
  Linked g (f ∷ fs) = (g < object_limit) × Names f.gather f.next g × Linked f.gather fs

  linked-low : (g : ℕ) (fs : List Frame) → Linked g fs → g < object_limit
  unfolding Linked
  linked-low g [] x = x
  linked-low g (f ∷ fs) x = x.0

  linked-rest : (g : ℕ) (f : Frame) (fs : List Frame) → Linked g (f ∷ fs) → Linked f.gather fs
  unfolding Linked
  linked-rest g f fs x = x.2

  linked-names : (g : ℕ) (f : Frame) (fs : List Frame) → Linked g (f ∷ fs) → Names f.gather f.next g
  unfolding Linked
  linked-names g f fs x = x.1

  unwind-rest : (g : ℕ) (fs : List Frame) (s : Store) (e : Error) → Linked g fs → K s → K (unwind s fs e)
  unfolding unwind Linked
  unwind-rest g [] s e l k = k
  unwind-rest g (f ∷ fs) s e l k = unwind-rest f.gather fs _ e l.2 (set_tells s f.gather (GatherState.Failed e) (linked-low f.gather fs l.2) tt k)

  unwind-tells : (f : Frame) (fs : List Frame) (s : Store) (e : Error) → Linked f.gather fs → K s → K (unwind s (f ∷ fs) e)
  unfolding unwind
  unwind-tells f fs s e l k = unwind-rest f.gather fs _ e l (set_tells s f.gather (GatherState.Failed e) (linked-low f.gather fs l) tt k)

  turn-tells : (loop : Store → Frame → List Frame → ℕ → ℕ → ℕ → Committed)
      → ((s : Store) (f : Frame) (fs : List Frame) (m j h : ℕ) → Linked f.gather fs → K s → K (loop s f fs m j h).store)
      → (f : Frame) (fs : List Frame) (m j h : ℕ) (x : Stop) → Linked f.gather fs → StopTold f.gather x → K (turn loop f fs m j h x).store
  unfolding turn StopTold open_gather_commit
  turn-tells loop go f fs m j h (at_nested s p o) l k =
      go _ _ _ (suc m) (suc j) h (unfold Linked in (k.1, k.2, l)) (set_tells s o _ k.1 refl k.0)
  turn-tells loop go f fs m j h (at_error s e) l k = unwind-tells f fs s e l k
  turn-tells loop go f [] m j h (at_end s) l k = (settle-tells s f.gather (linked-low f.gather [] l) k).keeps
  turn-tells loop go f (p ∷ ps) m j h (at_end s) l k = go _ _ _ (suc m) j (suc h) (linked-rest f.gather p ps l) (resume-tells p f.gather _ (linked-low p.gather ps (linked-rest f.gather p ps l)) (linked-names f.gather p ps l) (settle-tells s f.gather (linked-low f.gather (p ∷ ps) l) k))

  next-count : (s : Store) (g : ℕ) → K s → (x : Object) → object s g ≡ x → count_of x ≡ place_count (q g)
  unfolding count_of place_count frozen
  next-count s g k Object.Unmade e = ap place_count (sym (ap frozen e) ∙ k.rows g)
  next-count s g k (Object.Coroutine f CoroutineState.New) e = ap place_count (sym (ap frozen e) ∙ k.rows g)
  next-count s g k (Object.Coroutine f CoroutineState.Running) e = ap place_count (sym (ap frozen e) ∙ k.rows g)
  next-count s g k (Object.Coroutine f CoroutineState.Completed) e = ap place_count (sym (ap frozen e) ∙ k.rows g)
  next-count s g k (Object.ExternalFuture c (ExternalFutureState.Pending a r)) e = ap place_count (sym (ap frozen e) ∙ k.rows g)
  next-count s g k (Object.ExternalFuture c (ExternalFutureState.Resolved v)) e = ap place_count (sym (ap frozen e) ∙ k.rows g)
  next-count s g k (Object.ExternalFuture c (ExternalFutureState.Failed v)) e = ap place_count (sym (ap frozen e) ∙ k.rows g)
  next-count s g k (Object.GatherFuture f m x) e = ap place_count (sym (ap frozen e) ∙ k.rows g)

  loop-tells : (fuel : ℕ) (s : Store) (f : Frame) (fs : List Frame) (m j h : ℕ) → Linked f.gather fs → K s → K (commit_loop fuel s f fs m j h).store
  unfolding commit_loop step_gather_commit
  loop-tells zero s f fs m j h l k =
      turn-tells (λ x g gs a b c. record { store = x; poll = pending; steps = a; opened = b; settled = c }) (λ x g gs a b c y z. z) f fs m j h (at_error s Error.GatherReuse) l (unfold StopTold in k)
  loop-tells (suc fuel) s f fs m j h l k =
      turn-tells (λ x g gs a b c. commit_loop fuel x g gs a b c) (λ x g gs a b c. loop-tells fuel x g gs a b c) f fs m j h _ l
      (items-tell _ s f.gather f.next (linked-low f.gather fs l) (omega (arith, next-count s f.gather k (object s f.gather) refl)) k)

  -- a gather is committed
  pub commit_tells : (s : Store) (g : ℕ) (a : Awaiter) → g < object_limit → EndsTask g a → K s → K (commit_gather_tree s g a).store
  unfolding commit_gather_tree open_gather_commit
  commit_tells s g a l w k = loop-tells _ _ _ [] 0 1 0 (unfold Linked in l) (set_tells s g _ l w k)
