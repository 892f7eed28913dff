-- The machine walked once. K is kept by each write of a row that deliveries, switches, commits, cancels and the end make; then each of them keeps it. (What
-- is special to an event, an object made, an external settled, a coroutine completed, a task blocked, is handed in where it happens.)
use Rattle.std.specs.Prelude.{◌≡◌, Bool, ◌&&◌, eqb, length, get_or}
use Rattle.std.proofs.Math.Path.{refl}
use Rattle.std.proofs.Common.{sym, ap, subst, ◌∙◌, arith, ltb-true}
use Rattle.std.proofs.Math.Bool.{true, false, not}
use mathlib.Core.List.{List, [], ◌∷◌}
use Rattle.std.proofs.Math.Option.{Option, none, some, some-injective}
use Prim.Native.Nat.{ℕ, zero, suc, ◌+◌, ◌≤◌, ◌<◌}
use Rattle.std.proofs.Math.Dec.{ltb}
use Rattle.asyncio.specs.declared.CallId.{CallId}
use Rattle.asyncio.specs.declared.Value.{Value}
use Rattle.asyncio.specs.declared.Error.{Error}
use Rattle.asyncio.specs.Options.{OptionValue}
use Rattle.std.specs.Prelude.{Some}
use Rattle.asyncio.specs.declared.TaskState.{TaskState}
use Rattle.asyncio.specs.declared.Awaiter.{Awaiter}
use Rattle.asyncio.specs.declared.CoroutineState.{CoroutineState}
use Rattle.asyncio.specs.declared.ExternalFutureState.{ExternalFutureState}
use Rattle.asyncio.specs.declared.GatherState.{GatherState}
use Rattle.asyncio.specs.declared.Object.{Object}
use Rattle.asyncio.specs.declared.Moment.{Moment}
use Rattle.asyncio.specs.Limits.{object_limit, task_limit, places_length}
use Rattle.asyncio.specs.Numbers.{heap_id, task_id}
use Rattle.asyncio.specs.Ranges.{AwaiterFits, MomentFits}
use Rattle.asyncio.specs.RangeLaws.{pick_has}
use Rattle.asyncio.specs.States.{pick, is_live, is_ready, is_blocked, is_unstarted}
use Rattle.queue.specs.declared.ReadyQueue.{ReadyQueue}
use Rattle.queue.specs.Queue.{front_of, pop_front, empty_queue}
use Rattle.queue.proofs.QueueLaws.{front_of-fits}
use Rattle.machine.specs.Store.{Store, task, object, place, header, put_task, put_object, put_place, put_places, put_queue, add_log, set_state, set_moment, set_next, absent, blocked, reached, exited, removed}
use Rattle.machine.specs.Scheduler.{AwaitedGather, as_awaited, is_some, bit, first_from, task_of, task_of_in, still_live, live_count, make_ready, push_ready, remove_from_ready_queue, spawn_as, spawn, spawn_unless, remove_task, cancel_one}
use Rattle.machine.specs.Scheduler.{Walk, reach_if, reach, remove_blocked, visit_by, visit, visit_place, visit_open, walk_gather, walk_next, walk, walk_from, cancel_task, remove_from, cleanup}
use Rattle.machine.specs.Delivery.{Delivery, nobody_woken, deliver_to_task, Filled, fill_from, resolve_left, resolve_awaited, resolve_child, fail_awaited, fail_gather}
use Rattle.machine.specs.Delivery.{climb, awaited_count, send_value, climb_value, deliver_awaiter_success, send_error, climb_error, deliver_awaiter_failure}
use Rattle.machine.specs.Commit.{Poll, ready, raised, pending, Polled, await_pending, await_external, Item, polled, nested, polled_spawn, item_coroutine, item_gather, item_object, open_from, item}
use Rattle.machine.specs.Commit.{open_place, fill_place, Stop, at_end, at_nested, at_error, put_polled, put_item, step_item, step_items, Frame, step_gather_commit}
use Rattle.machine.specs.Commit.{with_state, set_gather, open_gather_commit, settle_as, settle_gather_commit, resume_in, resume_as, resume_after_child, unwind, Committed, turn, commit_loop, commit_gather_tree}
use Rattle.machine.specs.Events.{How, start, value, raises, Switched, Awaited, run, yield, new_function, resume_next, resume_after_task_exit, handle_task_failure}
use Rattle.machine.specs.Events.{start_by, start_task, activate_state, activate_within, activate, stays, go_on, await_coroutine, await_external_future, await_gather, await_object, exec_get_awaitable}
use Rattle.machine.specs.Scheduler.{PendingExternal, as_pending, pending_external, pending_external_in, is_call}
use Rattle.machine.specs.Delivery.{value_or, resolve_pending, fail_pending, settle_pending, settle_found, resolve_future, fail_future}
use Rattle.machine.specs.Events.{Result, apply_result, apply_future_results, wake_in_order}
use Rattle.rows.specs.Tables.{header_at, task_at}
use Rattle.machine_laws.specs.Views.{Sized}
use Rattle.machine_laws.specs.StoreLaws.{task-fits, object-fits, place-fits, header-fits, object_put-other, object_put-header}
use Rattle.machine_laws.specs.DeliveryLaws.{absurd_some, awaited-object, pending-object, first_below, length-fill_from, resolve_sent, fail_sent}
use Rattle.machine_laws.specs.WokenLaws.{WokenFits, success_woken, failure_woken}

-- how an object's row may change there: an external takes an awaiter, a coroutine starts, a gather's state changes; or the row is written as it was
pub data Turns : Object → Object → Type 0 where
  same : (x : Object) → Turns x x
  takes : (c : CallId) (r : OptionValue) (a : Awaiter) → Turns (Object.ExternalFuture c (ExternalFutureState.Pending Awaiter.Nobody r)) (Object.ExternalFuture c (ExternalFutureState.Pending a r))
  starts : (f : ℕ) → Turns (Object.Coroutine f CoroutineState.New) (Object.Coroutine f CoroutineState.Running)
  turns : (f n : ℕ) (x y : GatherState) → Turns (Object.GatherFuture f n x) (Object.GatherFuture f n y)

-- K is kept by each write of a commit
pub record Commits (K : Store → Type 0) : Type 0 where
  pub row : (s : Store) (o : ℕ) (x : Object) → o < object_limit → Turns (object s o) x → K s → K (put_object s o x)
  pub value_put : (s : Store) (p : ℕ) (v : Value) → K s → K (put_place s p (record { item = (place s p).item; result = Some v }))
  pub spawns : (s : Store) (c g : ℕ) → (header s).next < task_limit → K s → K (spawn_as s (header s).next c g)

-- the same, where a task is spawned for a new coroutine without a live task
pub record NewCommits (K : Store → Type 0) : Type 0 where
  pub row : (s : Store) (o : ℕ) (x : Object) → o < object_limit → Turns (object s o) x → K s → K (put_object s o x)
  pub value_put : (s : Store) (p : ℕ) (v : Value) → K s → K (put_place s p (record { item = (place s p).item; result = Some v }))
  pub spawns : (s : Store) (c g f : ℕ) → (header s).next < task_limit → c < object_limit → object s c ≡ Object.Coroutine f CoroutineState.New → task_of s c ≡ none → K s
      → K (spawn_as s (header s).next c g)

-- by each write of a delivery
pub record Delivers (K : Store → Type 0) : Type 0 where
  pub sized : (s : Store) → K s → Sized s
  pub row : (s : Store) (o : ℕ) (x : Object) → o < object_limit → Turns (object s o) x → K s → K (put_object s o x)
  pub values_put : (s : Store) (ps : List ℕ) → length ps ≡ places_length → K s → K (put_places s ps)
  pub wakes : (s : Store) (t : ℕ) (x : TaskState) → t < task_limit → is_blocked (task s t).state ≡ true → is_ready x ≡ true → is_unstarted x ≡ false → K s → K (add_log (make_ready s t x) (reached t))

-- by each write of a switch: a task that has started runs on; another starts its coroutine, which is new, or fails and goes, where it is not
pub record Switches (K : Store → Type 0) : Type 0 where
  pub delivers : Delivers K
  pub queued : (s : Store) (q : ReadyQueue) → K s → K (put_queue s q)
  pub moved : (s : Store) (m : Moment) → MomentFits m → K s → K (set_moment s m)
  pub runs_on : (s : Store) (t : ℕ) → t < task_limit → is_ready (task s t).state ≡ true → is_unstarted (task s t).state ≡ false → K s → K (set_state s t TaskState.Running)
  pub begins : (s : Store) (t f : ℕ) → t < task_limit → (task s t).state ≡ TaskState.Unstarted → object s (task s t).coroutine.0 ≡ Object.Coroutine f CoroutineState.New → K s
      → K (set_state (put_object s (task s t).coroutine.0 (Object.Coroutine f CoroutineState.Running)) t TaskState.Running)
  pub fails : (s : Store) (t : ℕ) (e : Error) → t < task_limit → (task s t).state ≡ TaskState.Unstarted → new_function (object s (task s t).coroutine.0) ≡ none → K s
      → K (deliver_awaiter_failure s (task s t).awaiter e).store → K (add_log (remove_task (deliver_awaiter_failure s (task s t).awaiter e).store t) (exited t))

-- by each write of a cancel: a live task that is not main goes
pub record Cancels (K : Store → Type 0) : Type 0 where
  pub goes : (s : Store) (t : ℕ) → is_live (task s t).state ≡ true → 1 ≤ t → K s → K (add_log (remove_task s t) (removed t))

-- by each write but a commit's, with no more said of it
pub record Closed (K : Store → Type 0) : Type 0 where
  pub sized : (s : Store) → K s → Sized s
  pub row : (s : Store) (o : ℕ) (x : Object) → o < object_limit → Turns (object s o) x → K s → K (put_object s o x)
  pub values_put : (s : Store) (ps : List ℕ) → length ps ≡ places_length → K s → K (put_places s ps)
  pub queued : (s : Store) (q : ReadyQueue) → K s → K (put_queue s q)
  pub moved : (s : Store) (m : Moment) → MomentFits m → K s → K (set_moment s m)
  pub wakes : (s : Store) (t : ℕ) (x : TaskState) → t < task_limit → is_blocked (task s t).state ≡ true → is_ready x ≡ true → K s → K (add_log (make_ready s t x) (reached t))
  pub runs_on : (s : Store) (t : ℕ) → t < task_limit → is_ready (task s t).state ≡ true → K s → K (set_state s t TaskState.Running)
  pub exits : (s : Store) (t : ℕ) → K s → K (add_log (remove_task s t) (exited t))
  pub goes : (s : Store) (t : ℕ) → K s → K (add_log (remove_task s t) (removed t))
  pub ends : (s : Store) (t : ℕ) → K s → K (add_log (put_task s t absent) (removed t))

-- ---- rows

awaited-turns : (x : Object) (w : AwaitedGather) (y : GatherState) → as_awaited x ≡ some w → Turns x (Object.GatherFuture w.first w.count y)
awaited-turns x w y e = subst (λ (z : Object). Turns z (Object.GatherFuture w.first w.count y)) (sym (awaited-object x w e)) (turns w.first w.count _ y)

state_turns : (x : Object) (y : GatherState) → Turns x (with_state x y)
unfolding with_state
state_turns Object.Unmade y = same _
state_turns (Object.Coroutine f x) y = same _
state_turns (Object.ExternalFuture c x) y = same _
state_turns (Object.GatherFuture f n x) y = turns f n x y

new-object : (x : Object) (f : ℕ) → new_function x ≡ some f → x ≡ Object.Coroutine f CoroutineState.New
unfolding new_function
new-object Object.Unmade f e = absurd_some e
new-object (Object.Coroutine g CoroutineState.New) f e = let q : ◌≡◌ {A = Option ℕ} (some g) (some f) = e in cc
new-object (Object.Coroutine g CoroutineState.Running) f e = absurd_some e
new-object (Object.Coroutine g CoroutineState.Completed) f e = absurd_some e
new-object (Object.ExternalFuture c x) f e = absurd_some e
new-object (Object.GatherFuture g n x) f e = absurd_some e

-- a gather in the midst of its commit is no external
not_external : {A : Type 0} (x : Object) (w : AwaitedGather) (c : CallId) (y : ExternalFutureState) → as_awaited x ≡ some w → x ≡ Object.ExternalFuture c y → A
unfolding as_awaited
not_external x w c y e q = absurd_some (sym (ap as_awaited q) ∙ e)

-- what is found for a call is an object
made_low : (s : Store) → (header_at s.objects).made ≤ object_limit
unfolding header
made_low s = (header-fits s).made_fits

found_low : (s : Store) (c o : ℕ) → pending_external s c ≡ some o → o < object_limit
unfolding pending_external pending_external_in
found_low s c o e = omega (arith, first_below (is_call s.objects c) (header_at s.objects).made 0 o e, made_low s)

-- ---- delivery

module _ (K : Store → Type 0) (kept : Delivers K) where
  to_task : (s : Store) (t : ℕ) (x : TaskState) → t < task_limit → is_ready x ≡ true → is_unstarted x ≡ false → K s → K (deliver_to_task s t x).store
  unfolding deliver_to_task nobody_woken
  to_task s t x l r n k = by (is_blocked (task s t).state) refl
    where
      by : (b : Bool) → is_blocked (task s t).state ≡ b → K (pick b (record { store = add_log (make_ready s t x) (reached t); woken = some t }) (nobody_woken s)).store
      by true q = kept.wakes s t x l q r n k
      by false q = k

  resolves : (s : Store) (g x : ℕ) (v : Value) → g < object_limit → K s → K (resolve_child s g x v).store
  unfolding resolve_child
  resolves s g x v l k = by (as_awaited (object s g)) refl
    where
      by : (w : Option AwaitedGather) → as_awaited (object s g) ≡ w → K (resolve_awaited s g x v w).store
      by none e = unfold resolve_awaited in k
      by (some w) e = unfold resolve_awaited in (left (eqb f.open_places 0))
        where
          f : Filled
          f = fill_from s.places w.open_places w.first x v 0 w.count

          m : Store
          m = put_places s f.places

          k1 : K m
          k1 = kept.values_put s f.places (length-fill_from w.count s.places w.open_places w.first x v 0 ∙ (kept.sized s k).places_sized) k

          e1 : as_awaited (object m g) ≡ some w
          e1 = unfold object put_places in e

          left : (b : Bool) → K (resolve_left b m g w f.open_places).store
          left true = unfold resolve_left in (kept.row m g _ l (awaited-turns (object m g) w GatherState.Completed e1) k1)
          left false = unfold resolve_left in (kept.row m g _ l (awaited-turns (object m g) w (GatherState.Awaited w.awaiter f.open_places) e1) k1)

  fails : (s : Store) (g : ℕ) (e : Error) → g < object_limit → K s → K (fail_gather s g e).store
  unfolding fail_gather
  fails s g e l k = by (as_awaited (object s g)) refl
    where
      by : (w : Option AwaitedGather) → as_awaited (object s g) ≡ w → K (fail_awaited s g e w).store
      by none q = unfold fail_awaited in k
      by (some w) q = unfold fail_awaited in (kept.row s g _ l (awaited-turns (object s g) w (GatherState.Failed e) q) k)

  climbs : (go : Store → Awaiter → Delivery) (u : Store) (a : Option Awaiter) → K u → ((b : Awaiter) → a ≡ some b → K (go u b).store) → K (climb go u a).store
  unfolding climb nobody_woken
  climbs go u none k h = k
  climbs go u (some b) k h = h b refl

  sends-value : (go : Store → Awaiter → Value → Delivery) → ((s : Store) (a : Awaiter) (v : Value) → AwaiterFits a → K s → K (go s a v).store)
      → (s : Store) (a : Awaiter) (v : Value) → AwaiterFits a → K s → K (send_value go s a v).store
  unfolding send_value nobody_woken
  sends-value go h s Awaiter.Nobody v f k = k
  sends-value go h s (Awaiter.Task t) v f k = to_task s t.0 (TaskState.Woken v) f refl refl k
  sends-value go h s (Awaiter.GatherSlot g x) v f k =
      let r = resolve_sent s g.0 x.0 v (kept.sized s k) f.0 in
      let k1 : K (resolve_child s g.0 x.0 v).store = resolves s g.0 x.0 v f.0 k in
      climbs (λ y a. go y a (Value.List g)) _ _ k1 (λ b e. h _ b (Value.List g) (r.fits b e) k1)

  climbs-value : (n : ℕ) (s : Store) (a : Awaiter) (v : Value) → AwaiterFits a → K s → K (climb_value n s a v).store
  unfolding climb_value nobody_woken
  climbs-value zero s a v f k = k
  climbs-value (suc n) s a v f k = sends-value (λ y b w. climb_value n y b w) (λ y b w. climbs-value n y b w) s a v f k

  -- a value goes up
  pub value-kept : (s : Store) (a : Awaiter) (v : Value) → AwaiterFits a → K s → K (deliver_awaiter_success s a v).store
  unfolding deliver_awaiter_success
  value-kept s a v f k = sends-value (λ y b w. climb_value (awaited_count s) y b w) (λ y b w. climbs-value (awaited_count s) y b w) s a v f k

  sends-error : (go : Store → Awaiter → Error → Delivery) → ((s : Store) (a : Awaiter) (e : Error) → AwaiterFits a → K s → K (go s a e).store)
      → (s : Store) (a : Awaiter) (e : Error) → AwaiterFits a → K s → K (send_error go s a e).store
  unfolding send_error nobody_woken
  sends-error go h s Awaiter.Nobody e f k = k
  sends-error go h s (Awaiter.Task t) e f k = to_task s t.0 (TaskState.Raised e) f refl refl k
  sends-error go h s (Awaiter.GatherSlot g x) e f k =
      let r = fail_sent s g.0 e (kept.sized s k) f.0 in
      let k1 : K (fail_gather s g.0 e).store = fails s g.0 e f.0 k in
      climbs (λ y a. go y a e) _ _ k1 (λ b p. h _ b e (r.fits b p) k1)

  climbs-error : (n : ℕ) (s : Store) (a : Awaiter) (e : Error) → AwaiterFits a → K s → K (climb_error n s a e).store
  unfolding climb_error nobody_woken
  climbs-error zero s a e f k = k
  climbs-error (suc n) s a e f k = sends-error (λ y b w. climb_error n y b w) (λ y b w. climbs-error n y b w) s a e f k

  -- an error goes up
  pub error-kept : (s : Store) (a : Awaiter) (e : Error) → AwaiterFits a → K s → K (deliver_awaiter_failure s a e).store
  unfolding deliver_awaiter_failure
  error-kept s a e f k = sends-error (λ y b w. climb_error (awaited_count s) y b w) (λ y b w. climbs-error (awaited_count s) y b w) s a e f k

  -- results, where an external that settles keeps K

  module _ (settles : (s : Store) (o : ℕ) (p : PendingExternal) (y : ExternalFutureState) → o < object_limit → as_pending (object s o) ≡ some p → K s → K (put_object s o (Object.ExternalFuture p.call y))) where
    -- the pending external of a call
    found-kept : (s : Store) (c : ℕ) (f : ℕ → PendingExternal → Store) → ((o : ℕ) (p : PendingExternal) → o < object_limit → as_pending (object s o) ≡ some p → K (f o p)) → K s
        → K (settle_found s (pending_external s c) f)
    unfolding settle_found
    found-kept s c f h k = by (pending_external s c) refl
      where
        row : (o : ℕ) → o < object_limit → (p : Option PendingExternal) → as_pending (object s o) ≡ p → K (settle_pending s p (f o))
        row o l none e = unfold settle_pending in k
        row o l (some p) e = unfold settle_pending in (h o p l e)

        by : (o : Option ℕ) → pending_external s c ≡ o → K (settle_found s o f)
        by none e = unfold settle_found in k
        by (some o) e = unfold settle_found in (row o (found_low s c o e) (as_pending (object s o)) refl)

    awaiter-low : (s : Store) (o : ℕ) (p : PendingExternal) → as_pending (object s o) ≡ some p → AwaiterFits p.awaiter
    awaiter-low s o p e = (rw (pending-object (object s o) p e) at (object-fits s o)).1.0

    resolve-future-kept : (s : Store) (c : ℕ) (v : Value) → K s → K (resolve_future s c v)
    unfolding resolve_future resolve_pending
    resolve-future-kept s c v k =
        found-kept s c _ (λ o p l e. value-kept _ p.awaiter _ (awaiter-low s o p e) (settles s o p (ExternalFutureState.Resolved (value_or p.stored v)) l e k)) k

    fail-future-kept : (s : Store) (c : ℕ) (x : Error) → K s → K (fail_future s c x)
    unfolding fail_future fail_pending
    fail-future-kept s c x k =
        found-kept s c _ (λ o p l e. error-kept _ p.awaiter x (awaiter-low s o p e) (settles s o p (ExternalFutureState.Failed x) l e k)) k

    result-kept : (s : Store) (r : Result) → K s → K (apply_result s r)
    unfolding apply_result
    result-kept s r k =
        pick_has K (eqb r.kind 0) (resolve-future-kept s _ _ k) (pick_has K (eqb r.kind 1) (fail-future-kept s _ _ k)
        (pick_has K (eqb r.kind 2) k (pick_has K (eqb r.kind 3) (fail-future-kept s _ _ k) (fail-future-kept s _ _ k))))

    -- a batch of results
    pub batch-kept : (rs : List Result) (s : Store) → K s → K (apply_future_results s rs)
    unfolding apply_future_results
    batch-kept [] s k = k
    batch-kept (r ∷ rs) s k = batch-kept rs (apply_result s r) (result-kept s r k)

-- ---- switches

module _ (K : Store → Type 0) (kept : Switches K) where
  yields : (s : Store) → K s → K (yield s).store
  unfolding yield
  yields s k = kept.moved s Moment.Waiting tt k

  runs-kept : (s : Store) (t : ℕ) (h : How) → t < task_limit → is_ready (task s t).state ≡ true → is_unstarted (task s t).state ≡ false → K s → K (run s t h).store
  unfolding run
  runs-kept s t h l r n k = kept.moved _ (Moment.Running (task_id t)) l (kept.runs_on s t l r n k)

  abbrev SwitchKept : Switched → Type 0
  SwitchKept x = K x.store

  module _ (go : Store → ℕ → Switched) (h : (s : Store) (t : ℕ) → t < task_limit → K s → K (go s t).store) where
    next-kept : (s : Store) → K s → K (resume_next go s).store
    unfolding resume_next
    next-kept s k =
        pick_has (λ (x : Switched). K x.store) (eqb s.queue.len 0) (yields s k) (h (put_queue s (pop_front s.queue)) (front_of s.queue).0 (front_of-fits s.queue) (kept.queued s _ k))

    exit-kept : (d : Delivery) → WokenFits d → K d.store → K (resume_after_task_exit go d).store
    unfolding resume_after_task_exit remove_from_ready_queue
    exit-kept d m k = by d.woken refl
      where
        by : (w : Option ℕ) → d.woken ≡ w → SwitchKept (elim w [ none ↦ resume_next go d.store | some t ↦ go (remove_from_ready_queue d.store t) t ])
        by none e = next-kept d.store k
        by (some t) e = h _ t (m.fits t e) (kept.queued d.store _ k)

    -- a task fails and goes
    left-kept : (s : Store) (t : ℕ) (e : Error) → Sized s → K (add_log (remove_task (deliver_awaiter_failure s (task s t).awaiter e).store t) (exited t)) → K (handle_task_failure go s t e).store
    unfolding handle_task_failure
    left-kept s t e z k = exit-kept _ (record { fits = (failure_woken s (task s t).awaiter e z (task-fits s t).awaiter_fits).fits }) k

    start-kept : (s : Store) (t : ℕ) → t < task_limit → (task s t).state ≡ TaskState.Unstarted → K s → K (start_task go s t).store
    unfolding start_task start_by run
    start-kept s t l r k = by (new_function (object s o)) refl
      where
        o : ℕ
        o = (task s t).coroutine.0

        by : (n : Option ℕ) → new_function (object s o) ≡ n → K (start_by go s t o n).store
        by none e = left-kept s t Error.CoroutineReuse (kept.delivers.sized s k) (kept.fails s t Error.CoroutineReuse l r e k (error-kept K kept.delivers s (task s t).awaiter Error.CoroutineReuse (task-fits s t).awaiter_fits k))
        by (some f) e = kept.moved _ (Moment.Running (task_id t)) l (kept.begins s t f l r (new-object (object s o) f e) k)

    state_kept : (s : Store) (t : ℕ) (x : TaskState) → t < task_limit → (task s t).state ≡ x → K s → K (activate_state go s t x).store
    unfolding activate_state
    state_kept s t TaskState.Absent l e k = yields s k
    state_kept s t TaskState.Unstarted l e k = start-kept s t l e k
    state_kept s t TaskState.Running l e k = yields s k
    state_kept s t (TaskState.Woken v) l e k = runs-kept s t (value v) l (ap is_ready e) (ap is_unstarted e) k
    state_kept s t (TaskState.Raised x) l e k = runs-kept s t (raises x) l (ap is_ready e) (ap is_unstarted e) k
    state_kept s t (TaskState.Blocked o) l e k = yields s k

  within-kept : (n : ℕ) (s : Store) (t : ℕ) → t < task_limit → K s → K (activate_within n s t).store
  unfolding activate_within
  within-kept zero s t l k = yields s k
  within-kept (suc n) s t l k = state_kept (λ x u. activate_within n x u) (λ x u. within-kept n x u) s t (task s t).state l refl k

  -- a task is activated
  pub task-kept : (s : Store) (t : ℕ) → t < task_limit → K s → K (activate s t).store
  unfolding activate
  task-kept s t l k = within-kept (live_count s) s t l k

  -- the next one is
  pub next-task-kept : (s : Store) → K s → K (resume_next activate s).store
  next-task-kept s k = next-kept activate task-kept s k

  -- the one that was woken is, or the next one
  pub woken-task-kept : (d : Delivery) → WokenFits d → K d.store → K (resume_after_task_exit activate d).store
  woken-task-kept d m k = exit-kept activate task-kept d m k

  -- a task fails and goes
  pub failed-task-kept : (s : Store) (t : ℕ) (e : Error) → Sized s → K (add_log (remove_task (deliver_awaiter_failure s (task s t).awaiter e).store t) (exited t)) → K (handle_task_failure activate s t e).store
  failed-task-kept s t e z k = left-kept activate task-kept s t e z k

-- ---- the commit

module _ (K : Store → Type 0) (kept : NewCommits K) where
  -- what is polled of an item of g leaves the gather's row
  record PolledKept (s : Store) (g : ℕ) (r : Polled) : Type 0 where
    still : object r.store g ≡ object s g
    keeps : K r.store

  await-pending-kept : (s : Store) (o : ℕ) (c : CallId) (r : OptionValue) (b a : Awaiter) → o < object_limit → object s o ≡ Object.ExternalFuture c (ExternalFutureState.Pending b r) → K s
      → K (await_pending s o c r b a).store
  unfolding await_pending
  await-pending-kept s o c r Awaiter.Nobody a l e k = kept.row s o _ l (subst (λ (x : Object). Turns x (Object.ExternalFuture c (ExternalFutureState.Pending a r))) (sym e) (takes c r a)) k
  await-pending-kept s o c r (Awaiter.Task t) a l e k = k
  await-pending-kept s o c r (Awaiter.GatherSlot g x) a l e k = k

  -- an external is polled
  pub external_kept : (s : Store) (o : ℕ) (c : CallId) (x : ExternalFutureState) (a : Awaiter) → o < object_limit → object s o ≡ Object.ExternalFuture c x → K s → K (await_external s o c x a).store
  unfolding await_external
  external_kept s o c (ExternalFutureState.Pending b r) a l e k = await-pending-kept s o c r b a l e k
  external_kept s o c (ExternalFutureState.Resolved v) a l e k = k
  external_kept s o c (ExternalFutureState.Failed x) a l e k = k

  await-still : (s : Store) (g o : ℕ) (c : CallId) (x : ExternalFutureState) (a : Awaiter) → (g ≡ o → ⊥) → object (await_external s o c x a).store g ≡ object s g
  unfolding await_external await_pending
  await-still s g o c (ExternalFutureState.Pending Awaiter.Nobody r) a ne = object_put-other s o g _ ne
  await-still s g o c (ExternalFutureState.Pending (Awaiter.Task t) r) a ne = refl
  await-still s g o c (ExternalFutureState.Pending (Awaiter.GatherSlot h x) r) a ne = refl
  await-still s g o c (ExternalFutureState.Resolved v) a ne = refl
  await-still s g o c (ExternalFutureState.Failed x) a ne = refl

  spawn-still : (s : Store) (t c p g : ℕ) → object (spawn_as s t c p) g ≡ object s g
  unfolding spawn_as push_ready add_log put_queue object
  spawn-still s t c p g = unfold object in (moved_row (put_task s t _) (t + 1)) ∙ (unfold object put_task in refl)
    where
      moved_row : (u : Store) (n : ℕ) → object (set_next u n) g ≡ object u g
      moved_row u n = unfold set_next in (object_put-header u _ g)

  spawn-kept : (s : Store) (g o p f : ℕ) → o < object_limit → object s o ≡ Object.Coroutine f CoroutineState.New → K s → PolledKept s g (polled_spawn s (spawn s o p))
  unfolding spawn
  spawn-kept s g o p f l q k = by (task_of s o) refl
    where
      room : (b : Bool) → ltb (header s).next task_limit ≡ b → task_of s o ≡ none → PolledKept s g (polled_spawn s (pick b (some (spawn_as s (header s).next o p)) none))
      room true e n = unfold polled_spawn in (record { still = spawn-still s (header s).next o p g; keeps = kept.spawns s o p f (ltb-true _ _ e) l q n k })
      room false e n = unfold polled_spawn in (record { still = refl; keeps = k })

      by : (d : Option ℕ) → task_of s o ≡ d → PolledKept s g (polled_spawn s (spawn_unless s o p d))
      by (some t) n = unfold spawn_unless polled_spawn in (record { still = refl; keeps = k })
      by none n = unfold spawn_unless in (room (ltb (header s).next task_limit) refl n)

  coroutine-kept : (s : Store) (g o f : ℕ) (x : CoroutineState) → o < object_limit → object s o ≡ Object.Coroutine f x → K s → PolledKept s g (item_coroutine s g o x)
  unfolding item_coroutine
  coroutine-kept s g o f CoroutineState.New l q k = spawn-kept s g o g f l q k
  coroutine-kept s g o f CoroutineState.Running l q k = record { still = refl; keeps = k }
  coroutine-kept s g o f CoroutineState.Completed l q k = record { still = refl; keeps = k }

  ItemKept : Store → ℕ → Item → Type 0
  ItemKept s g nested = Unit {0}
  ItemKept s g (polled r) = PolledKept s g r

  item-object-kept : (s : Store) (g o : ℕ) (w : AwaitedGather) (x : Object) → o < object_limit → as_awaited (object s g) ≡ some w → object s o ≡ x → K s → ItemKept s g (item_object s g o x)
  unfolding item_object item_gather ItemKept
  item-object-kept s g o w Object.Unmade l e q k = record { still = refl; keeps = k }
  item-object-kept s g o w (Object.Coroutine f x) l e q k = coroutine-kept s g o f x l q k
  item-object-kept s g o w (Object.ExternalFuture c x) l e q k =
      record {
        still = await-still s g o c x _ (λ d. not_external (object s g) w c x e (ap (object s) d ∙ q));
        keeps = external_kept s o c x _ l q k;
      }
  item-object-kept s g o w (Object.GatherFuture f n GatherState.Pending) l e q k = tt
  item-object-kept s g o w (Object.GatherFuture f n (GatherState.Awaited a m)) l e q k = record { still = refl; keeps = k }
  item-object-kept s g o w (Object.GatherFuture f n GatherState.Completed) l e q k = record { still = refl; keeps = k }
  item-object-kept s g o w (Object.GatherFuture f n (GatherState.Failed x)) l e q k = record { still = refl; keeps = k }

  item-kept : (s : Store) (g : ℕ) (w : AwaitedGather) (o : ℕ) → o < object_limit → as_awaited (object s g) ≡ some w → K s → ItemKept s g (item s g w o)
  unfolding item ItemKept
  item-kept s g w o l e k =
      pick_has (ItemKept s g) (open_from (place s) w o 0 w.count) (record { still = refl; keeps = k }) (unfold ItemKept in (item-object-kept s g o w (object s o) l e refl k))

  StopKept : Stop → Type 0
  StopKept (at_end u) = K u
  StopKept (at_nested u i o) = K u × (o < object_limit)
  StopKept (at_error u e) = K u

  put-item-kept : (g : ℕ) (w : AwaitedGather) (i o : ℕ) (go : Store → Stop) → ((u : Store) → K u → StopKept (go u)) → g < object_limit → o < object_limit
      → (s : Store) (x : Item) → as_awaited (object s g) ≡ some w → K s → ItemKept s g x → StopKept (put_item g w i o s x go)
  unfolding put_item StopKept ItemKept
  put-item-kept g w i o go h lg lo s nested e k p = (k, lo)
  put-item-kept g w i o go h lg lo s (polled r) e k p = by r.poll
    where
      by : (y : Poll) → StopKept (put_polled g w i r.store y go)
      by (ready v) = unfold put_polled fill_place in (h _ (kept.value_put r.store _ v p.keeps))
      by (raised x) = unfold put_polled StopKept in p.keeps
      by pending = unfold put_polled open_place in (h _ (kept.row r.store g _ lg (awaited-turns (object r.store g) w _ (ap as_awaited p.still ∙ e)) p.keeps))

  items_kept : (n : ℕ) (s : Store) (g i : ℕ) → g < object_limit → K s → StopKept (step_items n s g i)
  unfolding step_items step_item StopKept
  items_kept zero s g i l k = k
  items_kept (suc n) s g i l k = by (as_awaited (object s g)) refl (λ u y. items_kept n u g (i + 1) l y)
    where
      by : (a : Option AwaitedGather) → as_awaited (object s g) ≡ a → ((u : Store) → K u → StopKept (step_items n u g (i + 1))) → StopKept (step_item g i s a (λ x. step_items n x g (i + 1)))
      by none e h = k
      by (some w) e h =
          let o : ℕ = (place s (w.first + i)).item.0 in
          let low : o < object_limit = (place-fits s (w.first + i)).item_fits in
          put-item-kept g w i o (λ x. step_items n x g (i + 1)) h l low s (item s g w o) e k (item-kept s g w o low e k)

  set-kept : (s : Store) (g : ℕ) (y : GatherState) → g < object_limit → K s → K (set_gather s g y)
  unfolding set_gather
  set-kept s g y l k = kept.row s g _ l (state_turns (object s g) y) k

  settle-kept : (s : Store) (g : ℕ) → g < object_limit → K s → K (settle_gather_commit s g).store
  unfolding settle_gather_commit
  settle-kept s g l k = by (as_awaited (object s g))
    where
      by : (a : Option AwaitedGather) → K (settle_as s g a).store
      by none = unfold settle_as in k
      by (some w) = unfold settle_as in (pick_has (λ (r : Polled). K r.store) (eqb w.open_places 0) (set-kept s g GatherState.Completed l k) k)

  resume-child-kept : (f : Frame) (r : Polled) → f.gather < object_limit → K r.store → K (resume_after_child f r)
  unfolding resume_after_child
  resume-child-kept f r l k = by (as_awaited (object r.store f.gather)) refl
    where
      poll-by : (w : AwaitedGather) → as_awaited (object r.store f.gather) ≡ some w → (p : Poll) → K (resume_in r.store f w p)
      poll-by w e (ready v) = unfold resume_in fill_place in (kept.value_put r.store _ v k)
      poll-by w e (raised x) = unfold resume_in in k
      poll-by w e pending = unfold resume_in open_place in (kept.row r.store f.gather _ l (awaited-turns (object r.store f.gather) w _ e) k)

      by : (a : Option AwaitedGather) → as_awaited (object r.store f.gather) ≡ a → K (resume_as f r a)
      by none e = unfold resume_as in k
      by (some w) e = unfold resume_as in (poll-by w e r.poll)

  -- the frames are of objects
  Low : List Frame → Type 0
  Low [] = Unit {0}
  Low (f ∷ fs) = (f.gather < object_limit) × Low fs

  low_first : (f : Frame) (fs : List Frame) → Low (f ∷ fs) → f.gather < object_limit
  unfolding Low
  low_first f fs x = x.0

  unwind-kept : (fs : List Frame) (s : Store) (e : Error) → Low fs → K s → K (unwind s fs e)
  unfolding unwind Low
  unwind-kept [] s e l k = k
  unwind-kept (f ∷ fs) s e l k = unwind-kept fs _ e l.1 (set-kept s f.gather (GatherState.Failed e) l.0 k)

  turn-kept : (loop : Store → Frame → List Frame → ℕ → ℕ → ℕ → Committed)
      → ((s : Store) (f : Frame) (fs : List Frame) (n j i : ℕ) → Low (f ∷ fs) → K s → K (loop s f fs n j i).store)
      → (f : Frame) (fs : List Frame) (n j i : ℕ) (x : Stop) → Low (f ∷ fs) → StopKept x → K (turn loop f fs n j i x).store
  unfolding turn StopKept open_gather_commit Low
  turn-kept loop h f fs n j i (at_nested s p o) l k = h _ _ _ (suc n) (suc j) i (k.1, (l.0, l.1)) (set-kept s o _ k.1 k.0)
  turn-kept loop h f fs n j i (at_error s e) l k = unwind-kept (f ∷ fs) s e (unfold Low in l) k
  turn-kept loop h f [] n j i (at_end s) l k = settle-kept s f.gather l.0 k
  turn-kept loop h f (p ∷ ps) n j i (at_end s) l k = h _ _ _ (suc n) j (suc i) (l.1.0, l.1.1) (resume-child-kept p _ l.1.0 (settle-kept s f.gather l.0 k))

  loop-kept : (fuel : ℕ) (s : Store) (f : Frame) (fs : List Frame) (n j i : ℕ) → Low (f ∷ fs) → K s → K (commit_loop fuel s f fs n j i).store
  unfolding commit_loop step_gather_commit
  loop-kept zero s f fs n j i l k =
      turn-kept (λ x g gs m a h. record { store = x; poll = pending; steps = m; opened = a; settled = h }) (λ x g gs m a h y z. z) f fs n j i
      (at_error s Error.GatherReuse) l (unfold StopKept in k)
  loop-kept (suc fuel) s f fs n j i l k =
      turn-kept (λ x g gs m a h. commit_loop fuel x g gs m a h) (λ x g gs m a h. loop-kept fuel x g gs m a h) f fs n j i _ l
      (items_kept _ s f.gather f.next (low_first f fs l) k)

  -- a gather is committed
  pub tree_kept : (s : Store) (g : ℕ) (a : Awaiter) → g < object_limit → K s → K (commit_gather_tree s g a).store
  unfolding commit_gather_tree open_gather_commit
  tree_kept s g a l k = loop-kept _ _ _ [] 0 1 0 (unfold Low in (l, tt)) (set-kept s g _ l k)

-- ---- await, by a task t: J holds until it blocks, K from there on

module _ (J K : Store → Type 0) (first : NewCommits J) (then : Switches K) (over : (u : Store) → J u → K u) (t o : ℕ) (low : o < object_limit)
    (blocks : (u : Store) → J u → K (add_log (set_state u t (TaskState.Blocked (heap_id o))) (blocked t))) where
  go-on-kept : (n : ℕ) (s : Store) (p : Poll) → J s → K (go_on t o n s p).store
  unfolding go_on stays
  go-on-kept n s (ready v) k = over s k
  go-on-kept n s (raised e) k = over s k
  go-on-kept n s pending k = next-task-kept K then _ (blocks s k)

  await-by : (s : Store) (x : Object) → object s o ≡ x → J s → K (await_object s t o x).store
  unfolding await_object await_coroutine await_external_future await_gather stays
  await-by s Object.Unmade e k = over s k
  await-by s (Object.Coroutine f CoroutineState.New) e k = over _ (first.row s o _ low (subst (λ (x : Object). Turns x (Object.Coroutine f CoroutineState.Running)) (sym e) (starts f)) k)
  await-by s (Object.Coroutine f CoroutineState.Running) e k = over s k
  await-by s (Object.Coroutine f CoroutineState.Completed) e k = over s k
  await-by s (Object.ExternalFuture c x) e k = go-on-kept 0 _ _ (external_kept J first s o c x _ low e k)
  await-by s (Object.GatherFuture f n GatherState.Pending) e k = go-on-kept _ _ _ (tree_kept J first s o _ low k)
  await-by s (Object.GatherFuture f n (GatherState.Awaited a m)) e k = over s k
  await-by s (Object.GatherFuture f n GatherState.Completed) e k = over s k
  await-by s (Object.GatherFuture f n (GatherState.Failed x)) e k = over s k

  -- the running task awaits an object
  pub awaits_kept : (s : Store) → J s → K (exec_get_awaitable s t o).store
  unfolding exec_get_awaitable
  awaits_kept s k = await-by s (object s o) refl k

-- ---- cancel

first_above : (p : ℕ → Bool) (k i o : ℕ) → first_from p i k ≡ some o → i ≤ o
unfolding first_from
first_above p zero i o e = absurd_some e
first_above p (suc k) i o e = by (p i) e (λ q. first_above p k (i + 1) o q)
  where
    by : (b : Bool) → pick b (some i) (first_from p (i + 1) k) ≡ some o → (first_from p (i + 1) k ≡ some o → i + 1 ≤ o) → i ≤ o
    by true q h = let d : i ≡ o = some-injective i o q in omega (arith, d)
    by false q h = omega (arith, h q)

-- the task of a coroutine is not main
pub task_of-spawned : (s : Store) (c t : ℕ) → task_of s c ≡ some t → 1 ≤ t
unfolding task_of task_of_in
task_of-spawned s c t e = first_above _ _ 1 t e

module _ (K : Store → Type 0) (kept : Cancels K) (tasks : ℕ → Option ℕ) (spawned : (o t : ℕ) → tasks o ≡ some t → 1 ≤ t) where
  record WalkKept (w : Walk) : Type 0 where
    keeps : K w.store
    same_tasks : w.tasks_of ≡ tasks

  reach-kept : (w : Walk) (g : ℕ) → WalkKept w → WalkKept (reach w g)
  unfolding reach
  reach-kept w g k = by (is_some (as_awaited (object w.store g)) && not (get_or w.marks g false))
    where
      by : (b : Bool) → WalkKept (reach_if w g b)
      by true = unfold reach_if in (record { keeps = k.keeps; same_tasks = k.same_tasks })
      by false = unfold reach_if in k

  removes : (w : Walk) (t : ℕ) (b : Option ℕ) → K (cancel_one w.store t) → w.tasks_of ≡ tasks → WalkKept (remove_blocked w t b)
  unfolding remove_blocked
  removes w t none k e = record { keeps = k; same_tasks = e }
  removes w t (some b) k e = reach-kept _ b (record { keeps = k; same_tasks = e })

  visits : (w : Walk) (o : ℕ) → WalkKept w → WalkKept (visit w o)
  unfolding visit
  visits w o k = found (w.tasks_of o) refl
    where
      live-by : (t : ℕ) (b : Bool) → is_live (task w.store t).state ≡ b → 1 ≤ t → WalkKept (visit_by w o (pick b (some t) none))
      live-by t true e n = unfold visit_by in (removes w t _ (unfold cancel_one in (kept.goes w.store t e n k.keeps)) k.same_tasks)
      live-by t false e n = unfold visit_by in (reach-kept w o k)

      found : (d : Option ℕ) → w.tasks_of o ≡ d → WalkKept (visit_by w o (still_live w.store.tasks d))
      found none e = unfold still_live visit_by in (reach-kept w o k)
      found (some t) e = unfold still_live in (live-by t (is_live (task_at w.store.tasks t).state) (unfold task in refl) (spawned o t (ap (λ (f : ℕ → Option ℕ). f o) (sym k.same_tasks) ∙ e)))

  visits-open : (n : ℕ) (w : Walk) (a : AwaitedGather) (i : ℕ) → WalkKept w → WalkKept (visit_open w a i n)
  unfolding visit_open visit_place
  visits-open zero w a i k = k
  visits-open (suc n) w a i k = visits-open n _ a (i + 1) (pick_has WalkKept (bit a.open_places i) (visits w _ k) k)

  walk-gather-kept : (w : Walk) (a : Option AwaitedGather) → WalkKept w → WalkKept (walk_gather w a)
  unfolding walk_gather
  walk-gather-kept w none k = k
  walk-gather-kept w (some a) k = visits-open a.count w a 0 k

  walk-next-kept : (go : Walk → Store) → ((w : Walk) → WalkKept w → K (go w)) → (w : Walk) (gs : List ℕ) → WalkKept w → K (walk_next go w gs)
  unfolding walk_next
  walk-next-kept go h w [] k = k.keeps
  walk-next-kept go h w (g ∷ gs) k = h _ (walk-gather-kept _ _ (record { keeps = k.keeps; same_tasks = k.same_tasks }))

  walk_kept : (n : ℕ) (w : Walk) → WalkKept w → K (walk n w)
  unfolding walk
  walk_kept zero w k = k.keeps
  walk_kept (suc n) w k = walk-next-kept (λ x. walk n x) (λ x y. walk_kept n x y) w w.stack k

-- task t goes, and then those below it
pub walked-kept : (K : Store → Type 0) → Cancels K → (s : Store) (t : ℕ) → K (add_log (remove_task s t) (removed t)) → K (cancel_task s t)
unfolding cancel_task walk_from cancel_one
walked-kept K kept s t k = walk_kept K kept (task_of s) (task_of-spawned s) object_limit _ (removes K kept (task_of s) (task_of-spawned s) (walk_from s) t _ k refl)

-- ---- where no more is said of a write

module _ (K : Store → Type 0) (kept : Commits K) where
  commits-of : NewCommits K
  commits-of = record { row = kept.row; value_put = kept.value_put; spawns = λ s c g f l m e n k. kept.spawns s c g l k }

  -- an external is polled
  pub await_external-kept : (s : Store) (o : ℕ) (c : CallId) (x : ExternalFutureState) (a : Awaiter) → o < object_limit → object s o ≡ Object.ExternalFuture c x → K s → K (await_external s o c x a).store
  await_external-kept s o c x a l e k = external_kept K commits-of s o c x a l e k

  -- a gather is committed
  pub commit_kept : (s : Store) (g : ℕ) (a : Awaiter) → g < object_limit → K s → K (commit_gather_tree s g a).store
  commit_kept s g a l k = tree_kept K commits-of s g a l k

module _ (K : Store → Type 0) (kept : Closed K) where
  delivers-of : Delivers K
  delivers-of = record { sized = kept.sized; row = kept.row; values_put = kept.values_put; wakes = λ s t x l b r n k. kept.wakes s t x l b r k }

  switches-of : Switches K
  switches-of =
      record {
        delivers = delivers-of;
        queued = kept.queued;
        moved = kept.moved;
        runs_on = λ s t l r n k. kept.runs_on s t l r k;
        begins = λ s t f l e n k. starts-on s t f l e n k;
        fails = λ s t e l q n k d. kept.exits _ t d;
      }
    where
      starts-on : (s : Store) (t f : ℕ) → t < task_limit → (task s t).state ≡ TaskState.Unstarted → object s (task s t).coroutine.0 ≡ Object.Coroutine f CoroutineState.New → K s
          → K (set_state (put_object s (task s t).coroutine.0 (Object.Coroutine f CoroutineState.Running)) t TaskState.Running)
      starts-on s t f l e n k = kept.runs_on _ t l (unfold task put_object in (unfold task in (ap is_ready e))) (kept.row s _ _ (task-fits s t).coroutine_fits (subst (λ (x : Object). Turns x (Object.Coroutine f CoroutineState.Running)) (sym n) (starts f)) k)

  -- a value goes up
  pub success_kept : (s : Store) (a : Awaiter) (v : Value) → AwaiterFits a → K s → K (deliver_awaiter_success s a v).store
  success_kept s a v f k = value-kept K delivers-of s a v f k

  -- an error goes up
  pub failure_kept : (s : Store) (a : Awaiter) (e : Error) → AwaiterFits a → K s → K (deliver_awaiter_failure s a e).store
  failure_kept s a e f k = error-kept K delivers-of s a e f k

  -- a task is activated
  pub activate-kept : (s : Store) (t : ℕ) → t < task_limit → K s → K (activate s t).store
  activate-kept s t l k = task-kept K switches-of s t l k

  -- the next one is
  pub resume-kept : (s : Store) → K s → K (resume_next activate s).store
  resume-kept s k = next-task-kept K switches-of s k

  -- a task fails
  pub fail-kept : (s : Store) (t : ℕ) (e : Error) → K s → K (handle_task_failure activate s t e).store
  fail-kept s t e k = failed-task-kept K switches-of s t e (kept.sized s k) (kept.exits _ t (failure_kept s (task s t).awaiter e (task-fits s t).awaiter_fits k))

  -- a task has gone, with a value for its awaiter
  pub completion_kept : (left : Store) (a : Awaiter) (v : Value) → AwaiterFits a → K left → K (resume_after_task_exit activate (deliver_awaiter_success left a v)).store
  completion_kept left a v f k = woken-task-kept K switches-of _ (success_woken left a v (kept.sized left k) f) (success_kept left a v f k)

  -- a task is cancelled
  pub cancel-kept : (s : Store) (t : ℕ) → K s → K (cancel_task s t)
  cancel-kept s t k = walked-kept K (record { goes = λ u v l n y. kept.goes u v y }) s t (kept.goes s t k)

  remove-from-kept : (n : ℕ) (s : Store) (t : ℕ) → K s → K (remove_from s t n)
  unfolding remove_from
  remove-from-kept zero s t k = k
  remove-from-kept (suc n) s t k = remove-from-kept n _ (t + 1) (pick_has K (is_live (task s t).state) (kept.ends s t k) k)

  -- the session ends
  pub cleanup-kept : (s : Store) → K s → K (cleanup s)
  unfolding cleanup
  cleanup-kept s k = kept.moved _ Moment.Ended tt (kept.queued _ empty_queue (remove-from-kept (header s).next s 0 k))

  -- a batch of results, and whom it woke in task order
  pub results-kept : ((s : Store) (o : ℕ) (p : PendingExternal) (y : ExternalFutureState) → o < object_limit → as_pending (object s o) ≡ some p → K s → K (put_object s o (Object.ExternalFuture p.call y)))
      → (rs : List Result) (s : Store) → K s → K (wake_in_order s (apply_future_results s rs))
  unfolding wake_in_order
  results-kept settles rs s k = kept.queued _ _ (batch-kept K delivers-of settles rs s k)

-- the running task awaits an object
pub await-kept : (J K : Store → Type 0) → Commits J → Closed K → ((u : Store) → J u → K u) → (t o : ℕ) → o < object_limit → ((u : Store) → J u → K (add_log (set_state u t (TaskState.Blocked (heap_id o))) (blocked t)))
    → (s : Store) → J s → K (exec_get_awaitable s t o).store
await-kept J K first then over t o low blocks s k = awaits_kept J K (commits-of J first) (switches-of K then) over t o low blocks s k
