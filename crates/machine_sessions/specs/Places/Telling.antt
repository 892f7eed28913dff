-- `Told` through deliveries, switches, commits, awaits, cancels and the end; and what a switch ends with.
use Rattle.std.specs.Prelude.{◌≡◌, Bool, ◌&&◌, eqb, ltb, length, get_or}
use Rattle.std.proofs.Math.Path.{refl, ap}
use Rattle.std.proofs.Common.{sym, subst, ◌∙◌, true≢false, arith, not-suc-le-zero, ltb-true}
use Rattle.std.proofs.Math.Bool.{true, false, not}
use mathlib.Core.List.{List, [], ◌∷◌}
use Rattle.std.proofs.Math.Option.{Option, none, some, some-injective}
use Prim.Native.Nat.{ℕ, zero, suc, ◌+◌, ◌≤◌, ◌<◌}
use Rattle.std.proofs.Math.Decide.{ℕ_discrete}
use Rattle.asyncio.specs.declared.HeapId.{HeapId}
use Rattle.asyncio.specs.declared.CallId.{CallId}
use Rattle.asyncio.specs.declared.Value.{Value}
use Rattle.asyncio.specs.declared.Error.{Error}
use Rattle.asyncio.specs.declared.TaskState.{TaskState}
use Rattle.asyncio.specs.declared.Task.{Task}
use Rattle.asyncio.specs.declared.Awaiter.{Awaiter}
use Rattle.asyncio.specs.declared.CoroutineState.{CoroutineState}
use Rattle.asyncio.specs.declared.ExternalFutureState.{ExternalFutureState}
use Rattle.asyncio.specs.declared.GatherState.{GatherState}
use Rattle.asyncio.specs.declared.Object.{Object}
use Rattle.asyncio.specs.declared.Moment.{Moment}
use Rattle.asyncio.specs.Limits.{object_limit, task_limit, place_limit}
use Rattle.asyncio.specs.Numbers.{heap_id, task_id}
use Rattle.asyncio.specs.Ranges.{AwaiterFits, ValueFits, PlacesFit, ObjectFits}
use Rattle.asyncio.specs.RangeLaws.{pick_has}
use Rattle.asyncio.specs.Parts.{awaiter_of, count_of}
use Rattle.asyncio.specs.States.{pick, is_live, is_ready, is_blocked, is_unstarted}
use Rattle.queue.specs.Queue.{front_of, pop_front, empty_queue}
use Rattle.queue.proofs.QueueLaws.{front_of-fits}
use Rattle.machine.specs.Store.{Store, task, object, place, header, put_task, put_object, put_places, put_queue, add_log, set_state, set_moment, absent, blocked, reached, exited, removed}
use Rattle.machine.specs.Scheduler.{AwaitedGather, as_awaited, is_some, bit, task_of, live_count, remove_from_ready_queue, spawn_as, spawn, spawn_unless, remove_task, make_ready, cancel_one}
use Rattle.machine.specs.Scheduler.{Walk, reach_if, reach, remove_blocked, visit_by, visit, visit_place, visit_open, walk_gather, walk_next, walk, walk_from, cancel_task, remove_from, cleanup}
use Rattle.machine.specs.Delivery.{Delivery, nobody_woken, deliver_to_task, Filled, fill_from, Settled, resolve_left, resolve_awaited, resolve_child, fail_awaited, fail_gather}
use Rattle.machine.specs.Delivery.{climb, awaited_count, send_value, climb_value, deliver_awaiter_success, send_error, climb_error, deliver_awaiter_failure}
use Rattle.machine.specs.Commit.{Poll, ready, raised, pending, Polled, gives, await_pending, await_external, Item, polled, nested, polled_spawn, item_coroutine, item_gather, item_object, open_from, item}
use Rattle.machine.specs.Commit.{open_place, fill_place, Stop, at_end, at_nested, at_error, put_polled, put_item, step_item, step_items, Frame, step_gather_commit}
use Rattle.machine.specs.Commit.{with_state, set_gather, open_gather_commit, settle_as, settle_gather_commit, resume_in, resume_as, resume_after_child, unwind, Committed, turn, commit_loop, commit_gather_tree}
use Rattle.machine.specs.Events.{How, start, value, raises, inline, Switched, Awaited, run, yield, new_function, resume_next, resume_after_task_exit, handle_task_failure}
use Rattle.machine.specs.Events.{start_by, start_task, activate_state, activate_within, activate, stays, go_on, await_coroutine, await_external_future, await_gather, await_object, exec_get_awaitable}
use Rattle.machine_laws.specs.Views.{Sized}
use Rattle.machine_laws.specs.StoreLaws.{task-fits, object-fits, place-fits, header-fits, object_put-other, object_put-header}
use Rattle.machine_laws.specs.DeliveryLaws.{absurd_some, awaited-object, awaited-fits, length-fill_from, resolve_sent, fail_sent}
use Rattle.machine_laws.specs.WokenLaws.{WokenFits, success_woken, failure_woken}
use Rattle.machine_laws.specs.Walk.{Turns, same, takes, starts, turns}
use Rattle.machine_sessions.specs.Stall.Standing.{moment_head}
use Rattle.machine_sessions.specs.Places.Told.{Frozen, unmade, co, pends, gave, broke, many, frozen, told, first_place, EndsTask, TaskTold, Holds, Told, Gives, row_told, turns-told, value-told, fills_told, queue_told, add_log-told, moved_told, gone-told, ends-told, state_told, wakes-told, spawns-told}

-- ---- rows

pub awaited-turns : (x : Object) (w : AwaitedGather) (y : GatherState) → as_awaited x ≡ some w → Turns x (Object.GatherFuture w.first w.count y)
awaited-turns x w y e = subst (λ (z : Object). Turns z (Object.GatherFuture w.first w.count y)) (sym (awaited-object x w e)) (turns w.first w.count _ y)

pub state_turns : (x : Object) (y : GatherState) → Turns x (with_state x y)
unfolding with_state
state_turns Object.Unmade y = same _
state_turns (Object.Coroutine f x) y = same _
state_turns (Object.ExternalFuture c x) y = same _
state_turns (Object.GatherFuture f n x) y = turns f n x y

-- the awaiter of a gather's state
abbrev pub StateOwn : ℕ → GatherState → Type 0
StateOwn o GatherState.Pending = Unit {0}
StateOwn o (GatherState.Awaited a m) = EndsTask o a
StateOwn o GatherState.Completed = Unit {0}
StateOwn o (GatherState.Failed e) = Unit {0}

pub gather_own : (o f n : ℕ) (y : GatherState) → StateOwn o y → EndsTask o (awaiter_of (Object.GatherFuture f n y))
unfolding awaiter_of
gather_own o f n GatherState.Pending k = tt
gather_own o f n (GatherState.Awaited a m) k = k
gather_own o f n GatherState.Completed k = tt
gather_own o f n (GatherState.Failed e) k = tt

pub state_own : (o : ℕ) (x : Object) (y : GatherState) → EndsTask o (awaiter_of x) → StateOwn o y → EndsTask o (awaiter_of (with_state x y))
unfolding with_state
state_own o Object.Unmade y k h = k
state_own o (Object.Coroutine f x) y k h = k
state_own o (Object.ExternalFuture c x) y k h = k
state_own o (Object.GatherFuture f n x) y k h = gather_own o f n y h

pub awaited_own : (o : ℕ) (x : Object) (w : AwaitedGather) → as_awaited x ≡ some w → EndsTask o (awaiter_of x) → EndsTask o w.awaiter
unfolding awaiter_of
awaited_own o x w e k = subst (λ (y : Object). EndsTask o (awaiter_of y)) (awaited-object x w e) k

pub new-object : (x : Object) (f : ℕ) → new_function x ≡ some f → x ≡ Object.Coroutine f CoroutineState.New
unfolding new_function
new-object Object.Unmade f e = absurd_some e
new-object (Object.Coroutine g CoroutineState.New) f e = let q : ◌≡◌ {A = Option ℕ} (some g) (some f) = e in cc
new-object (Object.Coroutine g CoroutineState.Running) f e = absurd_some e
new-object (Object.Coroutine g CoroutineState.Completed) f e = absurd_some e
new-object (Object.ExternalFuture c x) f e = absurd_some e
new-object (Object.GatherFuture g n x) f e = absurd_some e

pub not_external : {A : Type 0} (x : Object) (w : AwaitedGather) (c : CallId) (y : ExternalFutureState) → as_awaited x ≡ some w → x ≡ Object.ExternalFuture c y → A
unfolding as_awaited
not_external x w c y e q = absurd_some (sym (ap as_awaited q) ∙ e)

-- where a gather's result goes on to
resolve_onward : (s : Store) (g x : ℕ) (v : Value) (b : Awaiter) → (resolve_child s g x v).onward ≡ some b → (w : AwaitedGather) × (as_awaited (object s g) ≡ some w) × (w.awaiter ≡ b)
unfolding resolve_child resolve_awaited resolve_left
resolve_onward s g x v b e = by (as_awaited (object s g)) refl e
  where
    by : (a : Option AwaitedGather) → as_awaited (object s g) ≡ a → (resolve_awaited s g x v a).onward ≡ some b → (w : AwaitedGather) × (as_awaited (object s g) ≡ some w) × (w.awaiter ≡ b)
    by none q h = absurd_some h
    by (some w) q h = left (eqb (fill_from s.places w.open_places w.first x v 0 w.count).open_places 0) h
      where
        left : (c : Bool) → (resolve_left c (put_places s (fill_from s.places w.open_places w.first x v 0 w.count).places) g w (fill_from s.places w.open_places w.first x v 0 w.count).open_places).onward ≡ some b
            → (w : AwaitedGather) × (as_awaited (object s g) ≡ some w) × (w.awaiter ≡ b)
        left true h = (w, q, some-injective w.awaiter b h)
        left false h = absurd_some h

module _ (q : ℕ → Frozen) (n : ℕ) (i : ℕ → ℕ) (D : ℕ → Option Value) (S : ℕ → Option ℕ) where
  abbrev K : Store → Type 0
  K u = Told q n i D S u

  -- what goes to a slot is what its source gives
  abbrev pub GivesTo : Awaiter → Value → Type 0
  GivesTo Awaiter.Nobody v = Unit {0}
  GivesTo (Awaiter.Task t) v = Unit {0}
  GivesTo (Awaiter.GatherSlot g x) v = Gives q D x.0 v

  -- by the source itself
  pub gives_own : (o : ℕ) (a : Awaiter) (v : Value) → EndsTask o a → Gives q D o v → GivesTo a v
  gives_own o Awaiter.Nobody v w g = tt
  gives_own o (Awaiter.Task t) v w g = tt
  gives_own o (Awaiter.GatherSlot h x) v w g = subst (λ (m : ℕ). Gives q D m v) (sym w) g

  pub many-gives : (s : Store) (g f c : ℕ) (x : GatherState) → g < object_limit → object s g ≡ Object.GatherFuture f c x → K s → Gives q D g (Value.List (heap_id g))
  unfolding frozen told
  many-gives s g f c x l e k = record { tells = ap (told D g) (sym (k.rows g) ∙ ap frozen e); fits = l }

  -- ---- delivery

  to_task : (s : Store) (t : ℕ) (x : TaskState) → t < task_limit → is_unstarted x ≡ false → K s → K (deliver_to_task s t x).store
  unfolding deliver_to_task nobody_woken
  to_task s t x l r k = by (is_blocked (task s t).state) refl
    where
      by : (b : Bool) → is_blocked (task s t).state ≡ b → K (pick b (record { store = add_log (make_ready s t x) (reached t); woken = some t }) (nobody_woken s)).store
      by true e = wakes-told q n i D S s t x e r k
      by false e = k

  resolves : (s : Store) (g x : ℕ) (v : Value) → g < object_limit → Gives q D x v → K s → K (resolve_child s g x v).store
  unfolding resolve_child
  resolves s g x v l gv k = by (as_awaited (object s g)) refl
    where
      by : (w : Option AwaitedGather) → as_awaited (object s g) ≡ w → K (resolve_awaited s g x v w).store
      by none e = unfold resolve_awaited in k
      by (some w) e = unfold resolve_awaited in (left (eqb f.open_places 0))
        where
          f : Filled
          f = fill_from s.places w.open_places w.first x v 0 w.count

          m : Store
          m = put_places s f.places

          k1 : K m
          k1 = fills_told q n i D S s w.open_places w.first x w.count v (awaited-fits s g w e).0.within gv k

          e1 : as_awaited (object m g) ≡ some w
          e1 = unfold object put_places in e

          left : (b : Bool) → K (resolve_left b m g w f.open_places).store
          left true = unfold resolve_left in (turns-told q n i D S m g _ l (awaited-turns (object m g) w GatherState.Completed e1) (gather_own g _ _ GatherState.Completed tt) k1)
          left false = unfold resolve_left in (turns-told q n i D S m g _ l (awaited-turns (object m g) w (GatherState.Awaited w.awaiter f.open_places) e1)
              (gather_own g _ _ (GatherState.Awaited w.awaiter f.open_places) (awaited_own g (object s g) w e (k.own g))) k1)

  fails : (s : Store) (g : ℕ) (e : Error) → g < object_limit → K s → K (fail_gather s g e).store
  unfolding fail_gather
  fails s g e l k = by (as_awaited (object s g)) refl
    where
      by : (w : Option AwaitedGather) → as_awaited (object s g) ≡ w → K (fail_awaited s g e w).store
      by none d = unfold fail_awaited in k
      by (some w) d = unfold fail_awaited in (turns-told q n i D S s g _ l (awaited-turns (object s g) w (GatherState.Failed e) d) (gather_own g _ _ (GatherState.Failed e) tt) k)

  climbs : (go : Store → Awaiter → Delivery) (u : Store) (a : Option Awaiter) → K u → ((b : Awaiter) → a ≡ some b → K (go u b).store) → K (climb go u a).store
  unfolding climb nobody_woken
  climbs go u none k h = k
  climbs go u (some b) k h = h b refl

  sends-value : (go : Store → Awaiter → Value → Delivery) → ((s : Store) (a : Awaiter) (v : Value) → AwaiterFits a → GivesTo a v → K s → K (go s a v).store)
      → (s : Store) (a : Awaiter) (v : Value) → AwaiterFits a → GivesTo a v → K s → K (send_value go s a v).store
  unfolding send_value nobody_woken
  sends-value go h s Awaiter.Nobody v f gv k = k
  sends-value go h s (Awaiter.Task t) v f gv k = to_task s t.0 (TaskState.Woken v) f refl k
  sends-value go h s (Awaiter.GatherSlot g x) v f gv k =
      let r = resolve_sent s g.0 x.0 v k.sized f.0 in
      let k1 : K (resolve_child s g.0 x.0 v).store = resolves s g.0 x.0 v f.0 gv k in
      climbs (λ y a. go y a (Value.List g)) _ _ k1 (λ b e. h _ b (Value.List g) (r.fits b e) (on b e) k1)
    where
      on : (b : Awaiter) → (resolve_child s g.0 x.0 v).onward ≡ some b → GivesTo b (Value.List g)
      on b e =
          let y = resolve_onward s g.0 x.0 v b e in
          gives_own g.0 b (Value.List g) (subst (EndsTask g.0) y.2 (awaited_own g.0 (object s g.0) y.0 y.1 (k.own g.0)))
          (many-gives s g.0 y.0.first y.0.count _ f.0 (awaited-object (object s g.0) y.0 y.1) k)

  climbs-value : (m : ℕ) (s : Store) (a : Awaiter) (v : Value) → AwaiterFits a → GivesTo a v → K s → K (climb_value m s a v).store
  unfolding climb_value nobody_woken
  climbs-value zero s a v f gv k = k
  climbs-value (suc m) s a v f gv k = sends-value (λ y b w. climb_value m y b w) (λ y b w. climbs-value m y b w) s a v f gv k

  -- a value goes up
  pub success_tells : (s : Store) (a : Awaiter) (v : Value) → AwaiterFits a → GivesTo a v → K s → K (deliver_awaiter_success s a v).store
  unfolding deliver_awaiter_success
  success_tells s a v f gv k = sends-value (λ y b w. climb_value (awaited_count s) y b w) (λ y b w. climbs-value (awaited_count s) y b w) s a v f gv k

  sends-error : (go : Store → Awaiter → Error → Delivery) → ((s : Store) (a : Awaiter) (e : Error) → AwaiterFits a → K s → K (go s a e).store)
      → (s : Store) (a : Awaiter) (e : Error) → AwaiterFits a → K s → K (send_error go s a e).store
  unfolding send_error nobody_woken
  sends-error go h s Awaiter.Nobody e f k = k
  sends-error go h s (Awaiter.Task t) e f k = to_task s t.0 (TaskState.Raised e) f refl k
  sends-error go h s (Awaiter.GatherSlot g x) e f k =
      let r = fail_sent s g.0 e k.sized f.0 in
      let k1 : K (fail_gather s g.0 e).store = fails s g.0 e f.0 k in
      climbs (λ y a. go y a e) _ _ k1 (λ b p. h _ b e (r.fits b p) k1)

  climbs-error : (m : ℕ) (s : Store) (a : Awaiter) (e : Error) → AwaiterFits a → K s → K (climb_error m s a e).store
  unfolding climb_error nobody_woken
  climbs-error zero s a e f k = k
  climbs-error (suc m) s a e f k = sends-error (λ y b w. climb_error m y b w) (λ y b w. climbs-error m y b w) s a e f k

  -- an error goes up
  pub failure_tells : (s : Store) (a : Awaiter) (e : Error) → AwaiterFits a → K s → K (deliver_awaiter_failure s a e).store
  unfolding deliver_awaiter_failure
  failure_tells s a e f k = sends-error (λ y b w. climb_error (awaited_count s) y b w) (λ y b w. climbs-error (awaited_count s) y b w) s a e f k

  -- ---- switches: what they end with

  pub data EndsOrReuse (x : Switched) : Type 0 where
    waited : (u : Store) → K u → x ≡ yield u → EndsOrReuse x
    started : (u : Store) (t f : ℕ) → t < task_limit → K u → (task u t).state ≡ TaskState.Unstarted → new_function (object u (task u t).coroutine.0) ≡ some f
        → x ≡ run (put_object u (task u t).coroutine.0 (Object.Coroutine f CoroutineState.Running)) t (start (task u t).coroutine.0 f) → EndsOrReuse x
    woke : (u : Store) (t : ℕ) (v : Value) → t < task_limit → K u → (task u t).state ≡ TaskState.Woken v → x ≡ run u t (value v) → EndsOrReuse x
    raised_it : (u : Store) (t : ℕ) (e : Error) → t < task_limit → K u → (task u t).state ≡ TaskState.Raised e → x ≡ run u t (raises e) → EndsOrReuse x

  yields : (s : Store) → K s → EndsOrReuse (yield s)
  yields s k = waited s k refl

  module _ (go : Store → ℕ → Switched) (h : (s : Store) (t : ℕ) → t < task_limit → K s → EndsOrReuse (go s t)) where
    next-ends : (s : Store) → K s → EndsOrReuse (resume_next go s)
    unfolding resume_next
    next-ends s k = pick_has EndsOrReuse (eqb s.queue.len 0) (yields s k) (h (put_queue s (pop_front s.queue)) (front_of s.queue).0 (front_of-fits s.queue) (queue_told q n i D S s _ k))

    exit-ends : (d : Delivery) → WokenFits d → K d.store → EndsOrReuse (resume_after_task_exit go d)
    unfolding resume_after_task_exit remove_from_ready_queue
    exit-ends d m k = by d.woken refl
      where
        by : (w : Option ℕ) → d.woken ≡ w → EndsOrReuse (elim w [ none ↦ resume_next go d.store | some t ↦ go (remove_from_ready_queue d.store t) t ])
        by none e = next-ends d.store k
        by (some t) e = h _ t (m.fits t e) (queue_told q n i D S d.store _ k)

    failure-ends : (s : Store) (t : ℕ) (e : Error) → K s → EndsOrReuse (handle_task_failure go s t e)
    unfolding handle_task_failure
    failure-ends s t e k =
        let a : Awaiter = (task s t).awaiter in
        let f : AwaiterFits a = (task-fits s t).awaiter_fits in
        let w : WokenFits (deliver_awaiter_failure s a e) = failure_woken s a e k.sized f in
        exit-ends _ (record { fits = w.fits }) (gone-told q n i D S (deliver_awaiter_failure s a e).store t (exited t) (failure_tells s a e f k))

    start-ends : (s : Store) (t : ℕ) → t < task_limit → (task s t).state ≡ TaskState.Unstarted → K s → EndsOrReuse (start_task go s t)
    unfolding start_task start_by
    start-ends s t l r k = by (new_function (object s o)) refl
      where
        o : ℕ
        o = (task s t).coroutine.0

        by : (m : Option ℕ) → new_function (object s o) ≡ m → EndsOrReuse (start_by go s t o m)
        by none e = failure-ends s t Error.CoroutineReuse k
        by (some f) e = started s t f l k r e refl

    state-ends : (s : Store) (t : ℕ) (x : TaskState) → t < task_limit → (task s t).state ≡ x → K s → EndsOrReuse (activate_state go s t x)
    unfolding activate_state
    state-ends s t TaskState.Absent l e k = yields s k
    state-ends s t TaskState.Unstarted l e k = start-ends s t l e k
    state-ends s t TaskState.Running l e k = yields s k
    state-ends s t (TaskState.Woken v) l e k = woke s t v l k e refl
    state-ends s t (TaskState.Raised x) l e k = raised_it s t x l k e refl
    state-ends s t (TaskState.Blocked o) l e k = yields s k

  within-ends : (m : ℕ) (s : Store) (t : ℕ) → t < task_limit → K s → EndsOrReuse (activate_within m s t)
  unfolding activate_within
  within-ends zero s t l k = yields s k
  within-ends (suc m) s t l k = state-ends (λ x u. activate_within m x u) (λ x u. within-ends m x u) s t (task s t).state l refl k

  pub activate-ends : (s : Store) (t : ℕ) → t < task_limit → K s → EndsOrReuse (activate s t)
  unfolding activate
  activate-ends s t l k = within-ends (live_count s) s t l k

  pub resume-ends : (s : Store) → K s → EndsOrReuse (resume_next activate s)
  resume-ends s k = next-ends activate activate-ends s k

  pub fail-ends : (s : Store) (t : ℕ) (e : Error) → K s → EndsOrReuse (handle_task_failure activate s t e)
  fail-ends s t e k = failure-ends activate activate-ends s t e k

  pub completion_ends : (left : Store) (a : Awaiter) (v : Value) → AwaiterFits a → GivesTo a v → K left → EndsOrReuse (resume_after_task_exit activate (deliver_awaiter_success left a v))
  completion_ends left a v f gv k = exit-ends activate activate-ends _ (success_woken left a v k.sized f) (success_tells left a v f gv k)

  -- ---- cancel and the end

  abbrev WalkKept : Walk → Type 0
  WalkKept w = K w.store

  reach-kept : (w : Walk) (g : ℕ) → WalkKept w → WalkKept (reach w g)
  unfolding reach
  reach-kept w g k = by (is_some (as_awaited (object w.store g)) && not (get_or w.marks g false))
    where
      by : (b : Bool) → WalkKept (reach_if w g b)
      by true = unfold reach_if in k
      by false = unfold reach_if in k

  removes : (w : Walk) (t : ℕ) (b : Option ℕ) → WalkKept w → WalkKept (remove_blocked w t b)
  unfolding remove_blocked cancel_one
  removes w t none k = gone-told q n i D S w.store t (removed t) k
  removes w t (some b) k = reach-kept _ b (gone-told q n i D S w.store t (removed t) k)

  visits : (w : Walk) (o : ℕ) (d : Option ℕ) → WalkKept w → WalkKept (visit_by w o d)
  unfolding visit_by
  visits w o none k = reach-kept w o k
  visits w o (some t) k = removes w t _ k

  visits-open : (m : ℕ) (w : Walk) (a : AwaitedGather) (j : ℕ) → WalkKept w → WalkKept (visit_open w a j m)
  unfolding visit_open visit_place visit
  visits-open zero w a j k = k
  visits-open (suc m) w a j k = visits-open m _ a (j + 1) (pick_has WalkKept (bit a.open_places j) (visits w _ _ k) k)

  walk-gather-kept : (w : Walk) (a : Option AwaitedGather) → WalkKept w → WalkKept (walk_gather w a)
  unfolding walk_gather
  walk-gather-kept w none k = k
  walk-gather-kept w (some a) k = visits-open a.count w a 0 k

  walk-next-kept : (go : Walk → Store) → ((w : Walk) → WalkKept w → K (go w)) → (w : Walk) (gs : List ℕ) → WalkKept w → K (walk_next go w gs)
  unfolding walk_next
  walk-next-kept go h w [] k = k
  walk-next-kept go h w (g ∷ gs) k = h _ (walk-gather-kept _ _ k)

  walk_kept : (m : ℕ) (w : Walk) → WalkKept w → K (walk m w)
  unfolding walk
  walk_kept zero w k = k
  walk_kept (suc m) w k = walk-next-kept (λ x. walk m x) (λ x y. walk_kept m x y) w w.stack k

  pub cancel-tells : (s : Store) (t : ℕ) → K s → K (cancel_task s t)
  unfolding cancel_task walk_from
  cancel-tells s t k = walk_kept object_limit _ (removes _ t _ k)

  remove-from-kept : (m : ℕ) (s : Store) (t : ℕ) → K s → K (remove_from s t m)
  unfolding remove_from
  remove-from-kept zero s t k = k
  remove-from-kept (suc m) s t k = remove-from-kept m _ (t + 1) (pick_has K (is_live (task s t).state) (ends-told q n i D S s t (removed t) k) k)

  pub cleanup-tells : (s : Store) → K s → K (cleanup s)
  unfolding cleanup
  cleanup-tells s k = moved_told q n i D S _ Moment.Ended tt (queue_told q n i D S _ empty_queue (remove-from-kept (header s).next s 0 k))

  pub cleanup_moment : (s : Store) → K s → (header (cleanup s)).moment ≡ Moment.Ended
  unfolding cleanup
  cleanup_moment s k = (moment_head _ Moment.Ended (queue_told q n i D S _ empty_queue (remove-from-kept (header s).next s 0 k)).sized tt).1

  -- ---- the commit

  -- a coroutine that is not completed has delivered nothing
  module _ (done : (c : ℕ) (v : Value) → D c ≡ some v → q c ≡ co true) where
    not-co : {A : Type 0} → co false ≡ co true → A
    not-co e = let z : ◌≡◌ {A = Bool} false true = cc in absurd (true≢false (sym z))

    pub new_undelivered : (s : Store) (o f : ℕ) → object s o ≡ Object.Coroutine f CoroutineState.New → K s → D o ≡ none
    new_undelivered s o f e k = by (D o) refl
      where
        is_co : q o ≡ co false
        is_co = sym (k.rows o) ∙ (ap frozen e ∙ (unfold frozen in refl))

        by : (x : Option Value) → D o ≡ x → x ≡ none
        by none h = refl
        by (some v) h = not-co (sym is_co ∙ done o v h)
