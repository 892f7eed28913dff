-- `Told` through an await of the running task t: its row stays until it blocks.
use Rattle.std.specs.Prelude.{◌≡◌, Bool, true, false, not, ◌&&◌, List, [], ◌∷◌, ℕ, zero, suc, ◌+◌, ◌-◌, ◌≤◌, ◌<◌, eqb, ltb, length, get_or}
use Rattle.std.proofs.Math.Path.{refl, ap, subst}
use Rattle.std.proofs.Common.{sym, ◌∙◌, true≢false, arith, ltb-true}
use Rattle.std.proofs.Math.Option.{Option, none, some, some-injective}
use Rattle.std.proofs.Math.Nat.{not-suc-le-zero}
use Rattle.std.proofs.Math.Decide.{ℕ_discrete}
use Rattle.asyncio.specs.declared.HeapId.{HeapId}
use Rattle.asyncio.specs.declared.CallId.{CallId}
use Rattle.asyncio.specs.declared.Value.{Value}
use Rattle.asyncio.specs.declared.Error.{Error}
use Rattle.asyncio.specs.declared.TaskState.{TaskState}
use Rattle.asyncio.specs.declared.Task.{Task}
use Rattle.asyncio.specs.declared.Awaiter.{Awaiter}
use Rattle.asyncio.specs.declared.CoroutineState.{CoroutineState}
use Rattle.asyncio.specs.declared.ExternalFutureState.{ExternalFutureState}
use Rattle.asyncio.specs.declared.GatherState.{GatherState}
use Rattle.asyncio.specs.declared.Object.{Object}
use Rattle.asyncio.specs.declared.Moment.{Moment}
use Rattle.asyncio.specs.Limits.{object_limit, task_limit, place_limit}
use Rattle.asyncio.specs.Numbers.{heap_id, task_id}
use Rattle.asyncio.specs.Ranges.{AwaiterFits, ValueFits, PlacesFit, ObjectFits}
use Rattle.asyncio.specs.RangeLaws.{pick_has}
use Rattle.asyncio.specs.Parts.{awaiter_of, count_of}
use Rattle.asyncio.specs.States.{pick, is_live, is_ready, is_blocked, is_unstarted}
use Rattle.queue.specs.Queue.{front_of, pop_front, empty_queue}
use Rattle.queue.proofs.QueueLaws.{front_of-fits}
use Rattle.machine.specs.Store.{Store, task, object, place, header, put_task, put_object, put_places, put_queue, add_log, set_state, set_moment, set_next, absent, blocked, reached, exited, removed}
use Rattle.machine.specs.Scheduler.{AwaitedGather, as_awaited, is_some, bit, task_of, live_count, remove_from_ready_queue, spawn_as, spawn, spawn_unless, remove_task, make_ready, push_ready, cancel_one}
use Rattle.machine.specs.Scheduler.{Walk, reach_if, reach, remove_blocked, visit_by, visit, visit_place, visit_open, walk_gather, walk_next, walk, walk_from, cancel_task, remove_from, cleanup}
use Rattle.machine.specs.Delivery.{Delivery, nobody_woken, deliver_to_task, Filled, fill_from, Settled, resolve_left, resolve_awaited, resolve_child, fail_awaited, fail_gather}
use Rattle.machine.specs.Delivery.{climb, awaited_count, send_value, climb_value, deliver_awaiter_success, send_error, climb_error, deliver_awaiter_failure}
use Rattle.machine.specs.Commit.{Poll, ready, raised, pending, Polled, gives, await_pending, await_external, Item, polled, nested, polled_spawn, item_coroutine, item_gather, item_object, open_from, item}
use Rattle.machine.specs.Commit.{open_place, fill_place, Stop, at_end, at_nested, at_error, put_polled, put_item, step_item, step_items, Frame, step_gather_commit}
use Rattle.machine.specs.Commit.{with_state, set_gather, open_gather_commit, settle_as, settle_gather_commit, resume_in, resume_as, resume_after_child, unwind, Committed, turn, commit_loop, commit_gather_tree}
use Rattle.machine.specs.Events.{How, start, value, raises, inline, Switched, Awaited, run, yield, new_function, resume_next, resume_after_task_exit, handle_task_failure}
use Rattle.machine.specs.Events.{start_by, start_task, activate_state, activate_within, activate, stays, go_on, await_coroutine, await_external_future, await_gather, await_object, exec_get_awaitable}
use Rattle.machine_laws.specs.Views.{Sized}
use Rattle.machine_laws.specs.StoreLaws.{task-fits, object-fits, place-fits, header-fits, object_put-other, object_put-header}
use Rattle.machine_laws.specs.DeliveryLaws.{absurd_some, awaited-object, awaited-fits, length-fill_from, resolve_sent, fail_sent}
use Rattle.machine_laws.specs.WokenLaws.{WokenFits, success_woken, failure_woken}
use Rattle.machine_laws.specs.Walk.{Turns, same, takes, starts, turns}
use Rattle.machine_sessions.specs.Places.Told.{Frozen, unmade, co, pends, gave, broke, many, frozen, told, first_place, EndsTask, TaskTold, Holds, Told, Gives, row_told, turns-told, value-told, fills_told, queue_told, add_log-told, moved_told, gone-told, ends-told, state_told, wakes-told, spawns-told}
use Rattle.machine_sessions.specs.Places.Told.{place_count}
use Rattle.machine_sessions.specs.Places.Telling.{awaited-turns, state_turns, StateOwn, gather_own, state_own, awaited_own, new-object, not_external, many-gives, new_undelivered, EndsOrReuse, resume-ends}
use Rattle.asyncio.specs.declared.Header.{Header}
use Rattle.asyncio.specs.Ranges.{HeaderFits}
use Rattle.machine.specs.Store.{put_place, put_header}
use Rattle.machine.specs.Events.{Control, runs}
use Rattle.machine.specs.History.{started_by}
use Rattle.machine_laws.specs.StoreLaws.{header_put-header, header_put-object, sized-put_object, sized-put_place, sized-put_task, sized-add_log, sized-put_queue, sized-set_next}
use Rattle.machine_laws.specs.SizedLaws.{sized-spawn_as}
use Rattle.machine_laws.specs.Walk.{Commits, commit_kept}
use Rattle.machine_sessions.specs.Queue.Tracked.{spawn-row, spawn-next}
use Rattle.machine_sessions.specs.Places.TellingCommit.{commit_tells, external_keeps}

-- ---- task t's row, and the moment

pub record Row (t : ℕ) (r : Task) (m : Moment) (u : Store) : Type 0 where
  pub sized : Sized u
  pub low : t < (header u).next
  pub row : task u t ≡ r
  pub moment : (header u).moment ≡ m

next_moment : (s : Store) (n : ℕ) → Sized s → n ≤ task_limit → (header (set_next s n)).moment ≡ (header s).moment
unfolding set_next
next_moment s n z k =
    let f : HeaderFits (header s) = header-fits s in
    ap (λ (h : Header). h.moment) (header_put-header s _ z (record { made_fits = f.made_fits; used_fits = f.used_fits; calls_fit = f.calls_fit; next_fits = k; moment_fits = f.moment_fits }))

spawn_moment : (s : Store) (c g : ℕ) → Sized s → (header s).next < task_limit → (header (spawn_as s (header s).next c g)).moment ≡ (header s).moment
spawn_moment s c g z l = spawn-as-moment (header s).next (omega arith)
  where
    same_head : (s : Store) (t : ℕ) (r : Task) → (header (put_task s t r)).moment ≡ (header s).moment
    same_head s t r = unfold header put_task in refl

    spawn-as-moment : (t : ℕ) → t + 1 ≤ task_limit → (header (spawn_as s t c g)).moment ≡ (header s).moment
    spawn-as-moment t b = unfold spawn_as push_ready header add_log put_queue in (unfold header in (next_moment (put_task s t _) (t + 1) (sized-put_task s t _ z) b ∙ same_head s t _))

pub row_commits : (t : ℕ) (r : Task) (m : Moment) → Commits (Row t r m)
row_commits t r m =
    record {
      row = λ s o x l y k.
          record {
            sized = sized-put_object s o x k.sized;
            low = subst (λ (h : Header). t < h.next) (sym (header_put-object s o x)) k.low;
            row = unfold task put_object in (unfold task in k.row);
            moment = ap (λ (h : Header). h.moment) (header_put-object s o x) ∙ k.moment;
          };
      value_put = λ s p v k.
          record {
            sized = sized-put_place s p _ k.sized;
            low = unfold header put_place in (unfold header in k.low);
            row = unfold task put_place in (unfold task in k.row);
            moment = unfold header put_place in (unfold header in k.moment);
          };
      spawns = λ s c g l k.
          record {
            sized = sized-spawn_as s (header s).next c g k.sized;
            low = subst (λ (n : ℕ). t < n) (sym (spawn-next s (header s).next c g k.sized l)) (omega (arith, k.low));
            row = spawn-row s (header s).next c g t (λ e. not-suc-le-zero {n = 0} (omega (arith, k.low, e))) ∙ k.row;
            moment = spawn_moment s c g k.sized l ∙ k.moment;
          };
    }

module _ (q : ℕ → Frozen) (n : ℕ) (i : ℕ → ℕ) (D : ℕ → Option Value) (S : ℕ → Option ℕ) (done : (c : ℕ) (v : Value) → D c ≡ some v → q c ≡ co true) (t : ℕ) where
  abbrev K : Store → Type 0
  K u = Told q n i D S u

  -- an await ends in the same task, which starts no coroutine, or in a switch
  pub data AwaitEnds (x : Awaited) : Type 0 where
    stayed : (h : How) → ((v : ℕ) (r : Option ℕ) → started_by (some (runs t h)) v r ≡ r) → K x.store → (header x.store).moment ≡ Moment.Running (task_id t) → x.control ≡ runs t h → AwaitEnds x
    switches : (y : Switched) → EndsOrReuse q n i D S y → x.store ≡ y.store → x.control ≡ y.control → AwaitEnds x

  -- task t, running, as it was in s
  module _ (s : Store) (r : Task) (live : is_live r.state ≡ true) (on : is_unstarted r.state ≡ false) (low : t < task_limit) where
    abbrev J : Store → Type 0
    J u = K u × Row t r (Moment.Running (task_id t)) u

    blocks-tells : (u : Store) (o : ℕ) → J u → K (add_log (set_state u t (TaskState.Blocked (heap_id o))) (blocked t))
    blocks-tells u o k =
        add_log-told q n i D S _ (blocked t) (state_told q n i D S u t (TaskState.Blocked (heap_id o)) refl (λ b m d. now b m d) (ap (λ (y : Task). is_unstarted y.state) k.1.row ∙ on) k.0)
      where
        now : t < (header u).next → (m : ℕ) → t ≡ suc m → TaskTold D S t (task u t)
        now b m d =
            subst (λ (y : ℕ). TaskTold D S y (task u y)) (sym d)
            (k.0.tasks m (subst (λ (y : ℕ). y < (header u).next) d b) (subst (λ (y : ℕ). is_live (task u y).state ≡ true) d (ap (λ (y : Task). is_live y.state) k.1.row ∙ live)))

    go-on-ends : (o m : ℕ) (u : Store) (p : Poll) → J u → AwaitEnds (go_on t o m u p)
    unfolding go_on stays started_by
    go-on-ends o m u (ready v) k = stayed (value v) (λ a b. refl) k.0 k.1.moment refl
    go-on-ends o m u (raised e) k = stayed (raises e) (λ a b. refl) k.0 k.1.moment refl
    go-on-ends o m u pending k = switches (resume_next activate (add_log (set_state u t (TaskState.Blocked (heap_id o))) (blocked t))) (resume-ends q n i D S _ (blocks-tells u o k)) refl refl

    object_row : (u : Store) (o : ℕ) (x : Object) → Row t r (Moment.Running (task_id t)) u → Row t r (Moment.Running (task_id t)) (put_object u o x)
    object_row u o x k =
        record {
          sized = sized-put_object u o x k.sized;
          low = subst (λ (h : Header). t < h.next) (sym (header_put-object u o x)) k.low;
          row = unfold task put_object in (unfold task in k.row);
          moment = ap (λ (h : Header). h.moment) (header_put-object u o x) ∙ k.moment;
        }

    external-row : (u : Store) (o : ℕ) (c : CallId) (x : ExternalFutureState) (a : Awaiter) → Row t r (Moment.Running (task_id t)) u → Row t r (Moment.Running (task_id t)) (await_external u o c x a).store
    unfolding await_external await_pending
    external-row u o c (ExternalFutureState.Pending Awaiter.Nobody y) a k = object_row u o _ k
    external-row u o c (ExternalFutureState.Pending (Awaiter.Task v) y) a k = k
    external-row u o c (ExternalFutureState.Pending (Awaiter.GatherSlot g v) y) a k = k
    external-row u o c (ExternalFutureState.Resolved v) a k = k
    external-row u o c (ExternalFutureState.Failed v) a k = k

    await-by : (o : ℕ) → o < object_limit → (x : Object) → object s o ≡ x → (x ≡ Object.Unmade → ⊥) → J s → AwaitEnds (await_object s t o x)
    unfolding await_object await_coroutine await_external_future await_gather stays started_by awaiter_of
    await-by o l Object.Unmade e m k = absurd (m refl)
    await-by o l (Object.Coroutine f CoroutineState.New) e m k =
        stayed (inline o) (λ a b. refl)
        (turns-told q n i D S s o _ l (subst (λ (x : Object). Turns x (Object.Coroutine f CoroutineState.Running)) (sym e) (starts f)) tt k.0) (object_row s o _ k.1).moment refl
    await-by o l (Object.Coroutine f CoroutineState.Running) e m k = stayed (raises Error.CoroutineReuse) (λ a b. refl) k.0 k.1.moment refl
    await-by o l (Object.Coroutine f CoroutineState.Completed) e m k = stayed (raises Error.CoroutineReuse) (λ a b. refl) k.0 k.1.moment refl
    await-by o l (Object.ExternalFuture c x) e m k = go-on-ends o 0 _ _ (external_keeps q n i D S done s o c x _ l tt e k.0, external-row s o c x _ k.1)
    await-by o l (Object.GatherFuture f c GatherState.Pending) e m k =
        go-on-ends o _ _ _ (commit_tells q n i D S done s o _ l tt k.0, commit_kept (Row t r (Moment.Running (task_id t))) (row_commits t r (Moment.Running (task_id t))) s o _ l k.1)
    await-by o l (Object.GatherFuture f c (GatherState.Awaited a j)) e m k = stayed (raises Error.GatherReuse) (λ a b. refl) k.0 k.1.moment refl
    await-by o l (Object.GatherFuture f c GatherState.Completed) e m k = stayed (value (Value.List (heap_id o))) (λ a b. refl) k.0 k.1.moment refl
    await-by o l (Object.GatherFuture f c (GatherState.Failed x)) e m k = stayed (raises x) (λ a b. refl) k.0 k.1.moment refl

    -- the running task awaits an object that is made
    pub await-ends : (o : ℕ) → o < object_limit → (object s o ≡ Object.Unmade → ⊥) → J s → AwaitEnds (exec_get_awaitable s t o)
    unfolding exec_get_awaitable
    await-ends o l m k = await-by o l (object s o) refl m k
