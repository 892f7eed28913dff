-- Deliveries, switches, results and cancels walked with what each write knows: which awaiter a delivery goes to, which task exits, and why.
use Rattle.std.specs.Prelude.{◌≡◌, Bool, ◌&&◌, eqb, length, get_or}
use Rattle.std.proofs.Math.Path.{refl, subst}
use Rattle.std.proofs.Common.{sym, ap, ◌∙◌, true≢false, arith}
use Rattle.std.proofs.Math.Bool.{true, false, not}
use mathlib.Core.List.{List, [], ◌∷◌}
use Rattle.std.proofs.Math.Option.{Option, none, some, some-injective}
use Prim.Native.Nat.{ℕ, zero, suc, ◌+◌, ◌-◌, ◌≤◌, ◌<◌}
use Rattle.std.proofs.Math.Decide.{ℕ_discrete}
use Rattle.asyncio.specs.declared.TaskId.{TaskId}
use Rattle.asyncio.specs.declared.HeapId.{HeapId}
use Rattle.asyncio.specs.declared.Value.{Value}
use Rattle.asyncio.specs.declared.Error.{Error}
use Rattle.asyncio.specs.declared.TaskState.{TaskState}
use Rattle.asyncio.specs.declared.Task.{Task}
use Rattle.asyncio.specs.declared.Awaiter.{Awaiter}
use Rattle.asyncio.specs.declared.CoroutineState.{CoroutineState}
use Rattle.asyncio.specs.declared.ExternalFutureState.{ExternalFutureState}
use Rattle.asyncio.specs.declared.GatherState.{GatherState}
use Rattle.asyncio.specs.declared.Object.{Object}
use Rattle.asyncio.specs.Limits.{object_limit, task_limit, places_length}
use Rattle.asyncio.specs.Ranges.{AwaiterFits, ObjectFits}
use Rattle.asyncio.specs.RangeLaws.{pick_has}
use Rattle.asyncio.specs.Layout.{object_words, to_object}
use Rattle.asyncio.specs.States.{pick, is_live, is_ready, is_blocked, is_unstarted}
use Rattle.queue.specs.declared.ReadyQueue.{ReadyQueue}
use Rattle.queue.specs.Queue.{front_of, pop_front}
use Rattle.queue.proofs.QueueLaws.{front_of-fits}
use Rattle.machine.specs.Store.{Store, task, object, header, put_task, put_object, put_places, put_queue, add_log, restate, set_state, reached, exited, removed}
use Rattle.machine.specs.Scheduler.{AwaitedGather, PendingExternal, as_awaited, as_pending, is_some, bit, task_of, task_of_in, is_task_of, first_from, live_count, make_ready, push_ready, remove_from_ready_queue, remove_task, cancel_one, pending_external, pending_external_in, is_call}
use Rattle.machine.specs.Scheduler.{Walk, reach_if, reach, remove_blocked, visit_by, visit, visit_place, visit_open, walk_gather, walk_next, walk, walk_from, cancel_task, still_live, blocked_on}
use Rattle.machine.specs.Delivery.{Delivery, nobody_woken, deliver_to_task, Filled, fill_from, resolve_left, resolve_awaited, resolve_child, fail_awaited, fail_gather}
use Rattle.machine.specs.Delivery.{climb, awaited_count, send_value, climb_value, deliver_awaiter_success, send_error, climb_error, deliver_awaiter_failure}
use Rattle.machine.specs.Delivery.{value_or, resolve_pending, fail_pending, settle_pending, settle_found, resolve_future, fail_future}
use Rattle.machine.specs.Events.{start, value, raises, Switched, run, yield, new_function, resume_next, resume_after_task_exit, handle_task_failure, start_by, start_task, activate_state, activate_within, activate, Result, apply_result, apply_future_results}
use Rattle.rows.specs.Tables.{task_at, header_at}
use Rattle.rows.specs.TableLaws.{header_at-fits}
use Rattle.machine_laws.specs.Views.{Sized}
use Rattle.machine_laws.specs.StoreLaws.{task-fits, object-fits, header-fits, task_put-other, object_put-other}
use Rattle.machine_laws.specs.DeliveryLaws.{absurd_some, pending-object, first_below, length-fill_from, resolve_sent, fail_sent}
use Rattle.machine_laws.specs.WokenLaws.{WokenFits, success_woken, failure_woken}
use Rattle.machine_sessions.specs.Waits.Calls.{read_back}

-- how an awaited gather goes on where a delivery settles it: its awaiter stays, or it is completed or failed
pub data Goes (a : Awaiter) : GatherState → Type 0 where
  waits_on : (m : ℕ) → Goes a (GatherState.Awaited a m)
  completes : Goes a GatherState.Completed
  fails : (e : Error) → Goes a (GatherState.Failed e)

-- K is kept by each write of a delivery; A is what is known of the awaiter that it goes to
pub record Delivers (K : Store → Type 0) (A : Awaiter → Type 0) : Type 0 where
  pub sized : (s : Store) → K s → Sized s
  pub row : (s : Store) (g : ℕ) (w : AwaitedGather) (y : GatherState) → g < object_limit → as_awaited (object s g) ≡ some w → Goes w.awaiter y → K s
      → K (put_object s g (Object.GatherFuture w.first w.count y))
  pub values_put : (s : Store) (ps : List ℕ) → length ps ≡ places_length → K s → K (put_places s ps)
  pub wakes : (s : Store) (t : TaskId) (x : TaskState) → t.0 < task_limit → A (Awaiter.Task t) → is_blocked (task s t.0).state ≡ true → is_ready x ≡ true → is_unstarted x ≡ false → K s
      → K (add_log (make_ready s t.0 x) (reached t.0))
  pub onward : (s : Store) (g x : HeapId) (w : AwaitedGather) → as_awaited (object s g.0) ≡ some w → A (Awaiter.GatherSlot g x) → K s → A w.awaiter

-- and by each write of a switch; a task exits there only at its first run
pub record Switching (K : Store → Type 0) (A : Awaiter → Type 0) : Type 0 where
  pub queued : (s : Store) (q : ReadyQueue) → K s → K (put_queue s q)
  pub sent_to : (s : Store) (t : ℕ) → t < task_limit → (task s t).state ≡ TaskState.Unstarted → new_function (object s (task s t).coroutine.0) ≡ none → K s → A (task s t).awaiter
  pub exits : (s : Store) (t : ℕ) → t < task_limit → (task s t).state ≡ TaskState.Unstarted → new_function (object s (task s t).coroutine.0) ≡ none → K s
      → K (add_log (remove_task s t) (exited t))

-- what a switch ends with
pub data Ends (K : Store → Type 0) (x : Switched) : Type 0 where
  waited : (u : Store) → K u → x ≡ yield u → Ends K x
  started : (u : Store) (t f : ℕ) → t < task_limit → K u → (task u t).state ≡ TaskState.Unstarted → new_function (object u (task u t).coroutine.0) ≡ some f
      → x ≡ run (put_object u (task u t).coroutine.0 (Object.Coroutine f CoroutineState.Running)) t (start (task u t).coroutine.0 f) → Ends K x
  woke : (u : Store) (t : ℕ) (v : Value) → t < task_limit → K u → (task u t).state ≡ TaskState.Woken v → x ≡ run u t (value v) → Ends K x
  raised_it : (u : Store) (t : ℕ) (e : Error) → t < task_limit → K u → (task u t).state ≡ TaskState.Raised e → x ≡ run u t (raises e) → Ends K x

-- where a gather's result goes on to
resolve_onward : (s : Store) (g x : ℕ) (v : Value) (b : Awaiter) → (resolve_child s g x v).onward ≡ some b → (w : AwaitedGather) × (as_awaited (object s g) ≡ some w) × (w.awaiter ≡ b)
unfolding resolve_child resolve_awaited resolve_left
resolve_onward s g x v b e = by (as_awaited (object s g)) refl e
  where
    by : (a : Option AwaitedGather) → as_awaited (object s g) ≡ a → (resolve_awaited s g x v a).onward ≡ some b → (w : AwaitedGather) × (as_awaited (object s g) ≡ some w) × (w.awaiter ≡ b)
    by none q h = absurd_some h
    by (some w) q h = left (eqb (fill_from s.places w.open_places w.first x v 0 w.count).open_places 0) h
      where
        left : (c : Bool) → (resolve_left c (put_places s (fill_from s.places w.open_places w.first x v 0 w.count).places) g w (fill_from s.places w.open_places w.first x v 0 w.count).open_places).onward ≡ some b
            → (w : AwaitedGather) × (as_awaited (object s g) ≡ some w) × (w.awaiter ≡ b)
        left true h = (w, q, some-injective w.awaiter b h)
        left false h = absurd_some h

fail_onward : (s : Store) (g : ℕ) (e : Error) (b : Awaiter) → (fail_gather s g e).onward ≡ some b → (w : AwaitedGather) × (as_awaited (object s g) ≡ some w) × (w.awaiter ≡ b)
unfolding fail_gather fail_awaited
fail_onward s g e b q = by (as_awaited (object s g)) refl q
  where
    by : (a : Option AwaitedGather) → as_awaited (object s g) ≡ a → (fail_awaited s g e a).onward ≡ some b → (w : AwaitedGather) × (as_awaited (object s g) ≡ some w) × (w.awaiter ≡ b)
    by none d h = absurd_some h
    by (some w) d h = (w, d, some-injective w.awaiter b h)

module _ (K : Store → Type 0) (A : Awaiter → Type 0) (kept : Delivers K A) where
  -- ---- delivery

  to_task : (s : Store) (t : TaskId) (x : TaskState) → t.0 < task_limit → A (Awaiter.Task t) → is_ready x ≡ true → is_unstarted x ≡ false → K s → K (deliver_to_task s t.0 x).store
  unfolding deliver_to_task nobody_woken
  to_task s t x l a r n k = by (is_blocked (task s t.0).state) refl
    where
      by : (b : Bool) → is_blocked (task s t.0).state ≡ b → K (pick b (record { store = add_log (make_ready s t.0 x) (reached t.0); woken = some t.0 }) (nobody_woken s)).store
      by true q = kept.wakes s t x l a q r n k
      by false q = k

  resolves : (s : Store) (g x : ℕ) (v : Value) → g < object_limit → K s → K (resolve_child s g x v).store
  unfolding resolve_child
  resolves s g x v l k = by (as_awaited (object s g)) refl
    where
      by : (w : Option AwaitedGather) → as_awaited (object s g) ≡ w → K (resolve_awaited s g x v w).store
      by none e = unfold resolve_awaited in k
      by (some w) e = unfold resolve_awaited in (left (eqb f.open_places 0))
        where
          f : Filled
          f = fill_from s.places w.open_places w.first x v 0 w.count

          m : Store
          m = put_places s f.places

          k1 : K m
          k1 = kept.values_put s f.places (length-fill_from w.count s.places w.open_places w.first x v 0 ∙ (kept.sized s k).places_sized) k

          e1 : as_awaited (object m g) ≡ some w
          e1 = unfold object put_places in e

          left : (b : Bool) → K (resolve_left b m g w f.open_places).store
          left true = unfold resolve_left in (kept.row m g w GatherState.Completed l e1 completes k1)
          left false = unfold resolve_left in (kept.row m g w (GatherState.Awaited w.awaiter f.open_places) l e1 (waits_on f.open_places) k1)

  gather-fails : (s : Store) (g : ℕ) (e : Error) → g < object_limit → K s → K (fail_gather s g e).store
  unfolding fail_gather
  gather-fails s g e l k = by (as_awaited (object s g)) refl
    where
      by : (w : Option AwaitedGather) → as_awaited (object s g) ≡ w → K (fail_awaited s g e w).store
      by none q = unfold fail_awaited in k
      by (some w) q = unfold fail_awaited in (kept.row s g w (GatherState.Failed e) l q (fails e) k)

  climbs : (go : Store → Awaiter → Delivery) (u : Store) (a : Option Awaiter) → K u → ((b : Awaiter) → a ≡ some b → K (go u b).store) → K (climb go u a).store
  unfolding climb nobody_woken
  climbs go u none k h = k
  climbs go u (some b) k h = h b refl

  sends-value : (go : Store → Awaiter → Value → Delivery) → ((s : Store) (a : Awaiter) (v : Value) → AwaiterFits a → A a → K s → K (go s a v).store)
      → (s : Store) (a : Awaiter) (v : Value) → AwaiterFits a → A a → K s → K (send_value go s a v).store
  unfolding send_value nobody_woken
  sends-value go h s Awaiter.Nobody v f a k = k
  sends-value go h s (Awaiter.Task t) v f a k = to_task s t (TaskState.Woken v) f a refl refl k
  sends-value go h s (Awaiter.GatherSlot g x) v f a k =
      let r = resolve_sent s g.0 x.0 v (kept.sized s k) f.0 in
      let k1 : K (resolve_child s g.0 x.0 v).store = resolves s g.0 x.0 v f.0 k in
      climbs (λ y b. go y b (Value.List g)) _ _ k1 (λ b e. h _ b (Value.List g) (r.fits b e) (on b e) k1)
    where
      on : (b : Awaiter) → (resolve_child s g.0 x.0 v).onward ≡ some b → A b
      on b e = let y = resolve_onward s g.0 x.0 v b e in subst A y.2 (kept.onward s g x y.0 y.1 a k)

  climbs-value : (n : ℕ) (s : Store) (a : Awaiter) (v : Value) → AwaiterFits a → A a → K s → K (climb_value n s a v).store
  unfolding climb_value nobody_woken
  climbs-value zero s a v f b k = k
  climbs-value (suc n) s a v f b k = sends-value (λ y c w. climb_value n y c w) (λ y c w. climbs-value n y c w) s a v f b k

  -- a value goes up
  pub success_walk : (s : Store) (a : Awaiter) (v : Value) → AwaiterFits a → A a → K s → K (deliver_awaiter_success s a v).store
  unfolding deliver_awaiter_success
  success_walk s a v f b k = sends-value (λ y c w. climb_value (awaited_count s) y c w) (λ y c w. climbs-value (awaited_count s) y c w) s a v f b k

  sends-error : (go : Store → Awaiter → Error → Delivery) → ((s : Store) (a : Awaiter) (e : Error) → AwaiterFits a → A a → K s → K (go s a e).store)
      → (s : Store) (a : Awaiter) (e : Error) → AwaiterFits a → A a → K s → K (send_error go s a e).store
  unfolding send_error nobody_woken
  sends-error go h s Awaiter.Nobody e f a k = k
  sends-error go h s (Awaiter.Task t) e f a k = to_task s t (TaskState.Raised e) f a refl refl k
  sends-error go h s (Awaiter.GatherSlot g x) e f a k =
      let r = fail_sent s g.0 e (kept.sized s k) f.0 in
      let k1 : K (fail_gather s g.0 e).store = gather-fails s g.0 e f.0 k in
      climbs (λ y b. go y b e) _ _ k1 (λ b p. h _ b e (r.fits b p) (on b p) k1)
    where
      on : (b : Awaiter) → (fail_gather s g.0 e).onward ≡ some b → A b
      on b p = let y = fail_onward s g.0 e b p in subst A y.2 (kept.onward s g x y.0 y.1 a k)

  climbs-error : (n : ℕ) (s : Store) (a : Awaiter) (e : Error) → AwaiterFits a → A a → K s → K (climb_error n s a e).store
  unfolding climb_error nobody_woken
  climbs-error zero s a e f b k = k
  climbs-error (suc n) s a e f b k = sends-error (λ y c w. climb_error n y c w) (λ y c w. climbs-error n y c w) s a e f b k

  -- an error goes up
  pub failure_walk : (s : Store) (a : Awaiter) (e : Error) → AwaiterFits a → A a → K s → K (deliver_awaiter_failure s a e).store
  unfolding deliver_awaiter_failure
  failure_walk s a e f b k = sends-error (λ y c w. climb_error (awaited_count s) y c w) (λ y c w. climbs-error (awaited_count s) y c w) s a e f b k

-- ---- a task that is not blocked stays as it is, and what is no new coroutine stays none

pub record Fixed (t : ℕ) (r : Task) (c : ℕ) (u : Store) : Type 0 where
  pub row : task u t ≡ r
  pub old : new_function (object u c) ≡ none

-- ---- what a write leaves as it was

pub row-task : (s : Store) (o : ℕ) (x : Object) (t : ℕ) → task (put_object s o x) t ≡ task s t
unfolding task put_object
row-task s o x t = refl

pub places-task : (s : Store) (ps : List ℕ) (t : ℕ) → task (put_places s ps) t ≡ task s t
unfolding task put_places
places-task s ps t = refl

pub places-object : (s : Store) (ps : List ℕ) (o : ℕ) → object (put_places s ps) o ≡ object s o
unfolding object put_places
places-object s ps o = refl

pub wakes-object : (s : Store) (t : ℕ) (x : TaskState) (o : ℕ) → object (add_log (make_ready s t x) (reached t)) o ≡ object s o
unfolding object add_log make_ready push_ready put_queue set_state put_task
wakes-object s t x o = refl

pub wakes-task : (s : Store) (t : ℕ) (x : TaskState) (u : ℕ) → task (add_log (make_ready s t x) (reached t)) u ≡ task (put_task s t (restate (task s t) x)) u
unfolding add_log make_ready push_ready put_queue set_state task
wakes-task s t x u = refl

gather_old : (f n : ℕ) (y : GatherState) → new_function (to_object (object_words (Object.GatherFuture f n y))) ≡ none
unfolding new_function
gather_old f n GatherState.Pending = refl
gather_old f n (GatherState.Awaited a m) = refl
gather_old f n GatherState.Completed = refl
gather_old f n (GatherState.Failed e) = refl

module _ (K : Store → Type 0) (A : Awaiter → Type 0) (kept : Delivers K A) (t : ℕ) (r : Task) (c : ℕ) (free : is_blocked r.state ≡ false) where
  abbrev Both : Store → Type 0
  Both u = K u × Fixed t r c u

  fixed-row : (s : Store) (g : ℕ) (w : AwaitedGather) (y : GatherState) → g < object_limit → Sized s → Fixed t r c s → Fixed t r c (put_object s g (Object.GatherFuture w.first w.count y))
  fixed-row s g w y l z k = record { row = row-task s g _ t ∙ k.row; old = by (ℕ_discrete c g) }
    where
      x : Object
      x = Object.GatherFuture w.first w.count y

      by : Dec (c ≡ g) → new_function (object (put_object s g x) c) ≡ none
      by (yes q) = subst (λ (m : ℕ). new_function (object (put_object s g x) m) ≡ none) (sym q) (ap new_function (read_back s g x z l) ∙ gather_old w.first w.count y)
      by (no ne) = ap new_function (object_put-other s g c x ne) ∙ k.old

  fixed-wakes : (s : Store) (v : ℕ) (x : TaskState) → is_blocked (task s v).state ≡ true → Fixed t r c s → Fixed t r c (add_log (make_ready s v x) (reached v))
  fixed-wakes s v x b k = record { row = other ∙ k.row; old = ap new_function (wakes-object s v x c) ∙ k.old }
    where
      apart : t ≡ v → ⊥
      apart e = true≢false (sym b ∙ (ap (λ (m : ℕ). is_blocked (task s m).state) (sym e) ∙ (ap (λ (y : Task). is_blocked y.state) k.row ∙ free)))

      other : task (add_log (make_ready s v x) (reached v)) t ≡ task s t
      other = wakes-task s v x t ∙ task_put-other s v t _ apart

  pub fixed_delivers : Delivers Both A
  fixed_delivers =
      record {
        sized = λ s k. kept.sized s k.0;
        row = λ s g w y l e go k. (kept.row s g w y l e go k.0, fixed-row s g w y l (kept.sized s k.0) k.1);
        values_put = λ s ps e k. (kept.values_put s ps e k.0, record { row = places-task s ps t ∙ k.1.row; old = ap new_function (places-object s ps c) ∙ k.1.old });
        wakes = λ s v x l a b re un k. (kept.wakes s v x l a b re un k.0, fixed-wakes s v.0 x b k.1);
        onward = λ s g x w e a k. kept.onward s g x w e a k.0;
      }

-- ---- switches

module _ (K : Store → Type 0) (A : Awaiter → Type 0) (kept : Delivers K A) (switch : Switching K A) where
  -- an error sets out from a task that is not blocked; the task is as it was when it exits
  pub failure_fixed : (s : Store) (t : ℕ) (e : Error) → is_blocked (task s t).state ≡ false → new_function (object s (task s t).coroutine.0) ≡ none → A (task s t).awaiter → K s
      → K (deliver_awaiter_failure s (task s t).awaiter e).store × Fixed t (task s t) (task s t).coroutine.0 (deliver_awaiter_failure s (task s t).awaiter e).store
  failure_fixed s t e free old a k =
      failure_walk (λ u. K u × Fixed t (task s t) (task s t).coroutine.0 u) A (fixed_delivers K A kept t (task s t) (task s t).coroutine.0 free)
      s (task s t).awaiter e (task-fits s t).awaiter_fits a (k, record { row = refl; old = old })

  module _ (go : Store → ℕ → Switched) (h : (s : Store) (t : ℕ) → t < task_limit → K s → Ends K (go s t)) where
    next-ends : (s : Store) → K s → Ends K (resume_next go s)
    unfolding resume_next
    next-ends s k =
        pick_has (Ends K) (eqb s.queue.len 0) (waited s k refl) (h (put_queue s (pop_front s.queue)) (front_of s.queue).0 (front_of-fits s.queue) (switch.queued s _ k))

    exit-ends : (d : Delivery) → WokenFits d → K d.store → Ends K (resume_after_task_exit go d)
    unfolding resume_after_task_exit remove_from_ready_queue
    exit-ends d m k = by d.woken refl
      where
        by : (w : Option ℕ) → d.woken ≡ w → Ends K (elim w [ none ↦ resume_next go d.store | some t ↦ go (remove_from_ready_queue d.store t) t ])
        by none e = next-ends d.store k
        by (some t) e = h _ t (m.fits t e) (switch.queued d.store _ k)

    start-fails : (s : Store) (t : ℕ) → t < task_limit → (task s t).state ≡ TaskState.Unstarted → new_function (object s (task s t).coroutine.0) ≡ none → K s
        → Ends K (handle_task_failure go s t Error.CoroutineReuse)
    unfolding handle_task_failure
    start-fails s t l e n k =
        exit-ends _ (record { fits = (failure_woken s (task s t).awaiter Error.CoroutineReuse (kept.sized s k) (task-fits s t).awaiter_fits).fits })
        (switch.exits d t l (ap (λ (y : Task). y.state) y.1.row ∙ e) (ap (λ (x : Task). new_function (object d x.coroutine.0)) y.1.row ∙ y.1.old) y.0)
      where
        d : Store
        d = (deliver_awaiter_failure s (task s t).awaiter Error.CoroutineReuse).store

        y : K d × Fixed t (task s t) (task s t).coroutine.0 d
        y = failure_fixed s t Error.CoroutineReuse (ap is_blocked e) n (switch.sent_to s t l e n k) k

    start-ends : (s : Store) (t : ℕ) → t < task_limit → (task s t).state ≡ TaskState.Unstarted → K s → Ends K (start_task go s t)
    unfolding start_task start_by
    start-ends s t l r k = by (new_function (object s (task s t).coroutine.0)) refl
      where
        by : (m : Option ℕ) → new_function (object s (task s t).coroutine.0) ≡ m → Ends K (start_by go s t (task s t).coroutine.0 m)
        by none e = start-fails s t l r e k
        by (some f) e = started s t f l k r e refl

    state-ends : (s : Store) (t : ℕ) (x : TaskState) → t < task_limit → (task s t).state ≡ x → K s → Ends K (activate_state go s t x)
    unfolding activate_state
    state-ends s t TaskState.Absent l e k = waited s k refl
    state-ends s t TaskState.Unstarted l e k = start-ends s t l e k
    state-ends s t TaskState.Running l e k = waited s k refl
    state-ends s t (TaskState.Woken v) l e k = woke s t v l k e refl
    state-ends s t (TaskState.Raised x) l e k = raised_it s t x l k e refl
    state-ends s t (TaskState.Blocked o) l e k = waited s k refl

  within-ends : (m : ℕ) (s : Store) (t : ℕ) → t < task_limit → K s → Ends K (activate_within m s t)
  unfolding activate_within
  within-ends zero s t l k = waited s k refl
  within-ends (suc m) s t l k = state-ends (λ x u. activate_within m x u) (λ x u. within-ends m x u) s t (task s t).state l refl k

  pub activate-walk : (s : Store) (t : ℕ) → t < task_limit → K s → Ends K (activate s t)
  unfolding activate
  activate-walk s t l k = within-ends (live_count s) s t l k

  -- the next ready task, or the host
  pub resume-walk : (s : Store) → K s → Ends K (resume_next activate s)
  resume-walk s k = next-ends activate activate-walk s k

  -- after an exit
  pub leave_walk : (d : Delivery) → WokenFits d → K d.store → Ends K (resume_after_task_exit activate d)
  leave_walk d m k = exit-ends activate activate-walk d m k

  -- a task has gone, with a value for its awaiter
  pub completion_walk : (left : Store) (a : Awaiter) (v : Value) → AwaiterFits a → A a → K left → Ends K (resume_after_task_exit activate (deliver_awaiter_success left a v))
  completion_walk left a v f b k = leave_walk _ (success_woken left a v (kept.sized left k) f) (success_walk K A kept left a v f b k)

found_low : (s : Store) (c o : ℕ) → pending_external s c ≡ some o → o < object_limit
unfolding pending_external pending_external_in
found_low s c o e = omega (arith, first_below (is_call s.objects c) (header_at s.objects).made 0 o e, (header_at-fits s.objects).made_fits)

-- ---- results, where an external that settles keeps K, and any awaiter will do

module _ (K : Store → Type 0) (A : Awaiter → Type 0) (kept : Delivers K A) (any : (a : Awaiter) → A a)
    (settles : (s : Store) (o : ℕ) (p : PendingExternal) (y : ExternalFutureState) → o < object_limit → as_pending (object s o) ≡ some p → K s → K (put_object s o (Object.ExternalFuture p.call y))) where
  found-walk : (s : Store) (c : ℕ) (f : ℕ → PendingExternal → Store) → ((o : ℕ) (p : PendingExternal) → o < object_limit → as_pending (object s o) ≡ some p → K (f o p)) → K s
      → K (settle_found s (pending_external s c) f)
  unfolding settle_found
  found-walk s c f h k = by (pending_external s c) refl
    where
      row : (o : ℕ) → o < object_limit → (p : Option PendingExternal) → as_pending (object s o) ≡ p → K (settle_pending s p (f o))
      row o l none e = unfold settle_pending in k
      row o l (some p) e = unfold settle_pending in (h o p l e)

      by : (o : Option ℕ) → pending_external s c ≡ o → K (settle_found s o f)
      by none e = unfold settle_found in k
      by (some o) e = unfold settle_found in (row o (found_low s c o e) (as_pending (object s o)) refl)

  awaiter-low : (s : Store) (o : ℕ) (p : PendingExternal) → as_pending (object s o) ≡ some p → AwaiterFits p.awaiter
  awaiter-low s o p e = (subst ObjectFits (pending-object (object s o) p e) (object-fits s o)).1.0

  resolve-future-walk : (s : Store) (c : ℕ) (v : Value) → K s → K (resolve_future s c v)
  unfolding resolve_future resolve_pending
  resolve-future-walk s c v k =
      found-walk s c _ (λ o p l e. success_walk K A kept _ p.awaiter _ (awaiter-low s o p e) (any _) (settles s o p (ExternalFutureState.Resolved (value_or p.stored v)) l e k)) k

  fail-future-walk : (s : Store) (c : ℕ) (x : Error) → K s → K (fail_future s c x)
  unfolding fail_future fail_pending
  fail-future-walk s c x k = found-walk s c _ (λ o p l e. failure_walk K A kept _ p.awaiter x (awaiter-low s o p e) (any _) (settles s o p (ExternalFutureState.Failed x) l e k)) k

  result-walk : (s : Store) (r : Result) → K s → K (apply_result s r)
  unfolding apply_result
  result-walk s r k =
      pick_has K (eqb r.kind 0) (resolve-future-walk s _ _ k) (pick_has K (eqb r.kind 1) (fail-future-walk s _ _ k)
      (pick_has K (eqb r.kind 2) k (pick_has K (eqb r.kind 3) (fail-future-walk s _ _ k) (fail-future-walk s _ _ k))))

  -- a batch of results
  pub results-walk : (rs : List Result) (s : Store) → K s → K (apply_future_results s rs)
  unfolding apply_future_results
  results-walk [] s k = k
  results-walk (r ∷ rs) s k = results-walk rs (apply_result s r) (result-walk s r k)

-- ---- cancel: spawned tasks go

-- a task that was spawned
abbrev pub IsSpawned : ℕ → Type 0
IsSpawned t = (1 ≤ t) × (t < task_limit)

first_above : (p : ℕ → Bool) (k i o : ℕ) → first_from p i k ≡ some o → i ≤ o
unfolding first_from
first_above p zero i o e = absurd_some e
first_above p (suc k) i o e = by (p i) e (λ q. first_above p k (i + 1) o q)
  where
    by : (b : Bool) → pick b (some i) (first_from p (i + 1) k) ≡ some o → (first_from p (i + 1) k ≡ some o → i + 1 ≤ o) → i ≤ o
    by true q f = let z : i ≡ o = some-injective i o q in omega arith
    by false q f = omega (arith, f q)

pub task_of-spawned : (s : Store) (c t : ℕ) → task_of s c ≡ some t → IsSpawned t
unfolding task_of task_of_in
task_of-spawned s c t e =
    let p : ℕ → Bool = λ u. is_task_of c (task_at s.tasks u) in
    (first_above p ((header s).next - 1) 1 t e, omega (arith, first_below p ((header s).next - 1) 1 t e, first_above p ((header s).next - 1) 1 t e, (header-fits s).next_fits))

module _ (K : Store → Type 0) (goes : (s : Store) (t : ℕ) → IsSpawned t → K s → K (add_log (remove_task s t) (removed t))) where
  record WalkKept (w : Walk) : Type 0 where
    keeps : K w.store
    found : (o t : ℕ) → w.tasks_of o ≡ some t → IsSpawned t

  reach-walk : (w : Walk) (g : ℕ) → WalkKept w → WalkKept (reach w g)
  unfolding reach
  reach-walk w g k = by (is_some (as_awaited (object w.store g)) && not (get_or w.marks g false))
    where
      by : (b : Bool) → WalkKept (reach_if w g b)
      by true = unfold reach_if in (record { keeps = k.keeps; found = k.found })
      by false = unfold reach_if in k

  removes : (w : Walk) (t : ℕ) (b : Option ℕ) → IsSpawned t → WalkKept w → WalkKept (remove_blocked w t b)
  unfolding remove_blocked cancel_one
  removes w t none l k = record { keeps = goes w.store t l k.keeps; found = k.found }
  removes w t (some b) l k = reach-walk _ b (record { keeps = goes w.store t l k.keeps; found = k.found })

  still-is : (ts : List ℕ) (d : Option ℕ) (t : ℕ) → still_live ts d ≡ some t → d ≡ some t
  unfolding still_live
  still-is ts none t e = absurd_some e
  still-is ts (some u) t e = by (is_live (task_at ts u).state) e
    where
      by : (b : Bool) → pick b (some u) none ≡ some t → some u ≡ some t
      by true q = q
      by false q = absurd_some q

  visits : (w : Walk) (o : ℕ) → WalkKept w → WalkKept (visit w o)
  unfolding visit
  visits w o k = by (still_live w.store.tasks (w.tasks_of o)) refl
    where
      by : (d : Option ℕ) → still_live w.store.tasks (w.tasks_of o) ≡ d → WalkKept (visit_by w o d)
      by none e = unfold visit_by in (reach-walk w o k)
      by (some t) e = unfold visit_by in (removes w t _ (k.found o t (still-is w.store.tasks (w.tasks_of o) t e)) k)

  visits-open : (n : ℕ) (w : Walk) (a : AwaitedGather) (i : ℕ) → WalkKept w → WalkKept (visit_open w a i n)
  unfolding visit_open visit_place
  visits-open zero w a i k = k
  visits-open (suc n) w a i k = visits-open n _ a (i + 1) (pick_has WalkKept (bit a.open_places i) (visits w _ k) k)

  walk-gather-walk : (w : Walk) (a : Option AwaitedGather) → WalkKept w → WalkKept (walk_gather w a)
  unfolding walk_gather
  walk-gather-walk w none k = k
  walk-gather-walk w (some a) k = visits-open a.count w a 0 k

  walk-next-walk : (go : Walk → Store) → ((w : Walk) → WalkKept w → K (go w)) → (w : Walk) (gs : List ℕ) → WalkKept w → K (walk_next go w gs)
  unfolding walk_next
  walk-next-walk go h w [] k = k.keeps
  walk-next-walk go h w (g ∷ gs) k = h _ (walk-gather-walk _ _ (record { keeps = k.keeps; found = k.found }))

  walk-walk : (n : ℕ) (w : Walk) → WalkKept w → K (walk n w)
  unfolding walk
  walk-walk zero w k = k.keeps
  walk-walk (suc n) w k = walk-next-walk (λ x. walk n x) (λ x y. walk-walk n x y) w w.stack k

  -- task t has gone, and the walk begins
  begins : (w : Walk) (t : ℕ) (b : Option ℕ) → K (add_log (remove_task w.store t) (removed t)) → ((o u : ℕ) → w.tasks_of o ≡ some u → IsSpawned u) → WalkKept (remove_blocked w t b)
  unfolding remove_blocked cancel_one
  begins w t none k f = record { keeps = k; found = f }
  begins w t (some b) k f = reach-walk _ b (record { keeps = k; found = f })

  -- a task is cancelled: from where it has gone on
  pub cancel-walk : (s : Store) (t : ℕ) → K (add_log (remove_task s t) (removed t)) → K (cancel_task s t)
  unfolding cancel_task walk_from
  cancel-walk s t k = walk-walk object_limit _ (begins _ t (blocked_on (task s t).state) k (λ o u e. task_of-spawned s o u e))
