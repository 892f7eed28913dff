-- Why a gather failed, through switches: a task that fails at its first run ends with coroutine-reuse.
use Rattle.std.specs.Prelude.{◌≡◌, Bool, true, false, ◌||◌, List, [], ◌∷◌, ◌⊎◌, T, eqb, ltb, length}
use Rattle.std.proofs.Math.Path.{refl, ap, subst}
use Rattle.std.proofs.Common.{sym, ◌∙◌, true≢false, inl, inr, not-suc-le-zero, arith, eq-eqb, ltb-true, ltb-false}
use Rattle.std.proofs.Math.Option.{Option, none, some, some-injective}
use Prim.Native.Nat.{ℕ, zero, suc, ◌+◌, ◌≤◌, ◌<◌}
use Rattle.std.proofs.Math.Decide.{ℕ_discrete}
use Rattle.asyncio.specs.declared.HeapId.{HeapId}
use Rattle.asyncio.specs.declared.Value.{Value}
use Rattle.asyncio.specs.declared.Error.{Error}
use Rattle.asyncio.specs.declared.TaskState.{TaskState}
use Rattle.asyncio.specs.declared.Task.{Task}
use Rattle.asyncio.specs.declared.Awaiter.{Awaiter}
use Rattle.asyncio.specs.declared.CoroutineState.{CoroutineState}
use Rattle.asyncio.specs.declared.ExternalFutureState.{ExternalFutureState}
use Rattle.asyncio.specs.declared.GatherState.{GatherState}
use Rattle.asyncio.specs.declared.Object.{Object}
use Rattle.asyncio.specs.declared.Moment.{Moment}
use Rattle.asyncio.specs.declared.Header.{Header}
use Rattle.asyncio.specs.Limits.{object_limit, task_limit, u32_limit}
use Rattle.asyncio.specs.Numbers.{heap_id, task_id}
use Rattle.asyncio.specs.Ranges.{ErrorFits, AwaiterFits, HeaderFits, MomentFits, StateFits, TaskFits, ObjectFits}
use Rattle.asyncio.specs.Layout.{object_words, to_object}
use Rattle.asyncio.specs.RangeLaws.{object_back}
use Rattle.asyncio.specs.States.{pick, is_live, is_blocked, is_unstarted, is_ready}
use Rattle.queue.specs.declared.ReadyQueue.{ReadyQueue}
use Rattle.machine.specs.Store.{Store, LogEntry, view, task, object, place, header, put_object, put_places, put_task, put_queue, put_header, add_log, restate, set_state, set_moment, absent, reached, exited, removed}
use Rattle.machine.specs.Scheduler.{AwaitedGather, PendingExternal, as_awaited, as_pending, make_ready, push_ready, remove_from_ready_queue, remove_task, live_count}
use Rattle.machine.specs.Delivery.{Delivery, deliver_awaiter_failure}
use Rattle.machine.specs.Events.{How, start, value, raises, inline, Control, runs, waits, Switched, run, yield, new_function, resume_next, resume_after_task_exit, handle_task_failure, start_by, start_task, activate_state, activate_within, activate}
use Rattle.machine.specs.Honest.{exits_in}
use Rattle.machine_laws.specs.Views.{Sized}
use Rattle.machine_laws.specs.Facts.{SoundBut, Slotted, Nothing}
use Rattle.machine_laws.specs.StoreLaws.{task_put-task, object_put-object, header-fits, header_put-object, object_put-other, object_put-header, live-put_task, task_put-other, task-fits, object-fits, sized-put_object, sized-set_state, sized-put_places, sized-put_queue, sized-set_moment, sized-add_log, sized-put_task}
use Rattle.machine_laws.specs.DeliveryLaws.{absurd_some}
use Rattle.machine_laws.specs.TestLaws.{holds}
use Rattle.machine_laws.specs.Walk.{Turns, same, takes, turns, Closed, failure_kept}
use Rattle.machine_theorems.specs.Soundness.Stores.{idle, SoundDuring}
use Rattle.machine_theorems.specs.Soundness.Deliver.{DeliveryEnds, failure_keeps}
use Rattle.machine_theorems.specs.Soundness.Cycle.{task_delivering, remove_keeps, next-by, exit_by}
use Rattle.machine_theorems.specs.Panics.NoPanicLaws.{Activated, goes_on, raises_it, ready_activated, main_started}
use Rattle.machine_theorems.specs.Panics.NoPanicWoken.{failure_activated}
use Rattle.machine_sessions.specs.Waits.Calls.{read_back, moment_row}
use Rattle.machine_sessions.specs.Places.Telling.{new-object}
use Rattle.machine_sessions.specs.Gather.Failing.{ClimbMoves, FailedRow}
use Rattle.machine_sessions.specs.Gather.FailingRows.{ItemAt, FirstRun, Raised, by_task, by_first_run, ExitAs, at_first, TaskAs, Because, Failing, failing_as, failing_over, queue_failing, moment_failing, row_failing, state_failing, exit_failing}
use Rattle.machine_sessions.specs.Gather.FailingClimb.{Up, slotted_up, failure_failing}

-- ---- what is no new coroutine stays so

module _ (c : ℕ) where
  -- object c is no new coroutine
  record Used (u : Store) : Type 0 where
    sized : Sized u
    used : new_function (object u c) ≡ none

  turned : (x y : Object) → Turns x y → ObjectFits x → new_function x ≡ none → new_function (to_object (object_words y)) ≡ none
  unfolding new_function
  turned x y (same z) f e = ap new_function (object_back z f) ∙ e
  turned x y (takes d r a) f e = refl
  turned x y (Rattle.machine_laws.specs.Walk.starts g) f e = absurd_some (sym e)
  turned x y (turns g n a GatherState.Pending) f e = refl
  turned x y (turns g n a (GatherState.Awaited b m)) f e = refl
  turned x y (turns g n a GatherState.Completed) f e = refl
  turned x y (turns g n a (GatherState.Failed z)) f e = refl

  used-row : (s : Store) (o : ℕ) (x : Object) → o < object_limit → Turns (object s o) x → Used s → Used (put_object s o x)
  used-row s o x l t k = record { sized = sized-put_object s o x k.sized; used = by (ℕ_discrete c o) }
    where
      by : Dec (c ≡ o) → new_function (object (put_object s o x) c) ≡ none
      by (yes d) =
          subst (λ (j : ℕ). new_function (object (put_object s o x) j) ≡ none) (sym d)
          (ap new_function (read_back s o x k.sized l) ∙ turned (object s o) x t (object-fits s o) (subst (λ (j : ℕ). new_function (object s j) ≡ none) d k.used))
      by (no ne) = ap new_function (object_put-other s o c x ne) ∙ k.used

  used-closed : Closed Used
  used-closed =
      record {
        sized = λ s k. k.sized;
        row = used-row;
        values_put = λ s ps e k. record { sized = sized-put_places s ps e k.sized; used = unfold object put_places in (unfold object in k.used) };
        queued = λ s q k. record { sized = sized-put_queue s q k.sized; used = unfold object put_queue in (unfold object in k.used) };
        moved = λ s m f k. record { sized = sized-set_moment s m k.sized; used = ap new_function (moment_row s m c) ∙ k.used };
        wakes = λ s t x l e r k.
            record { sized = unfold make_ready push_ready in (sized-add_log _ (reached t) (sized-put_queue _ _ (sized-set_state s t x k.sized))); used = unfold object add_log make_ready push_ready put_queue set_state put_task in (unfold object in k.used) };
        runs_on = λ s t l r k. record { sized = sized-set_state s t TaskState.Running k.sized; used = unfold object set_state put_task in (unfold object in k.used) };
        exits = λ s t k. record { sized = gone s t (exited t) k.sized; used = unfold object add_log remove_task remove_from_ready_queue put_queue put_task in (unfold object in k.used) };
        goes = λ s t k. record { sized = gone s t (removed t) k.sized; used = unfold object add_log remove_task remove_from_ready_queue put_queue put_task in (unfold object in k.used) };
        ends = λ s t k. record { sized = sized-add_log _ (removed t) (sized-put_task s t absent k.sized); used = unfold object add_log put_task in (unfold object in k.used) };
      }
    where
      gone : (s : Store) (t : ℕ) (x : LogEntry) → Sized s → Sized (add_log (remove_task s t) x)
      gone s t x z = unfold remove_task remove_from_ready_queue in (sized-add_log _ x (sized-put_queue _ _ (sized-put_task s t absent z)))

  failure-used : (u : Store) (a : Awaiter) (e : Error) → Sized u → AwaiterFits a → new_function (object u c) ≡ none → new_function (object (deliver_awaiter_failure u a e).store c) ≡ none
  failure-used u a e z f k = (failure_kept Used used-closed u a e f (record { sized = z; used = k })).used

-- ---- the cycle

-- what a switch leaves: why gathers have failed; and a task that it starts has started, with a coroutine that is not new any more
pub record LeftAs (K : Store → Type 0) (x : Switched) : Type 0 where
  pub failing : K x.store
  pub low : (t : ℕ) (h : How) → x.control ≡ runs t h → t < (header x.store).next
  pub started : (t : ℕ) (h : How) → x.control ≡ runs t h → is_unstarted (task x.store t).state ≡ false
  pub alive : (t : ℕ) (h : How) → x.control ≡ runs t h → is_live (task x.store t).state ≡ true
  pub used : (t c f : ℕ) → x.control ≡ runs t (start c f) → object x.store c ≡ Object.Coroutine f CoroutineState.Running

-- s is the store before the event, m the one where deliveries begin
module _ (s m : Store) (Young : ℕ → Type 0) (B : Error → Type 0) (X : ℕ → Type 0) (R : ℕ → Error → Type 0) (P : ℕ → Type 0) (sound : SoundBut 0 P Nothing (view m))
    (up : (g p x : ℕ) (w : AwaitedGather) → g < (header m).made → as_awaited (object m g) ≡ some w → w.awaiter ≡ Awaiter.GatherSlot (heap_id p) (heap_id x) → Young p → Young g)
    -- a task that is older than the event is as it was, and its slot is in no gather that the event has committed
    (older : (t : ℕ) → t < (header s).next → t < (header m).next → is_unstarted (task m t).state ≡ true → task m t ≡ task s t)
    (apart : (t p x : ℕ) → t < (header s).next → t < (header m).next → is_live (task m t).state ≡ true → (task m t).awaiter ≡ Awaiter.GatherSlot (heap_id p) (heap_id x) → Young p → ⊥)
    (reuse : B Error.CoroutineReuse) where
  abbrev K : Store → Type 0
  K u = Failing s m Young B X R Unit u

  abbrev Over : Store → Type 0
  Over u = Failing s m Young B X R ⊥ u

  over : (u : Store) → K u → Over u
  over u k = failing_over s m Young B X R (Unit {0}) u k

  not-runs : {A : Type 0} (t : ℕ) (h : How) (cs : List ℕ) → waits cs ≡ runs t h → A
  not-runs t h cs e = let z : ◌≡◌ {A = ℕ} 0 1 = cc in absurd (omega arith)

  not-start-value : {A : Type 0} (v : Value) (c f : ℕ) → value v ≡ start c f → A
  not-start-value v c f e = let z : ◌≡◌ {A = ℕ} 0 1 = cc in absurd (omega arith)

  not-start-raise : {A : Type 0} (v : Error) (c f : ℕ) → raises v ≡ start c f → A
  not-start-raise v c f e = let z : ◌≡◌ {A = ℕ} 0 1 = cc in absurd (omega arith)

  yields : (u : Store) → K u → LeftAs Over (yield u)
  unfolding yield
  yields u k =
      record { failing = over _ (moment_failing s m Young B X R (Unit {0}) u Moment.Waiting tt k); low = λ t h e. not-runs t h _ e; started = λ t h e. not-runs t h _ e; alive = λ t h e. not-runs t h _ e; used = λ t c f e. not-runs t (start c f) _ e }

  -- what a live task of m ends with goes up to gathers that its coroutine is an item of
  pub task_up : (t : ℕ) (a : Awaiter) → t < (header s).next → t < (header m).next → is_live (task m t).state ≡ true → (task m t).awaiter ≡ a → Up s m Young B X (task m t).coroutine.0 a
  unfolding view
  task_up t Awaiter.Nobody l n lv e = tt
  task_up t (Awaiter.Task v) l n lv e = tt
  task_up t (Awaiter.GatherSlot p x) l n lv e =
      slotted_up s m Young B X (task m t).coroutine.0 p.0 x.0 (sound.task_slots t n (holds (is_live (task m t).state) lv) p.0 x.0 e) (λ w d. apart t p.0 x.0 l n lv e)

  -- a live task runs
  run-left : (u : Store) (t : ℕ) (h : How) → t < (header m).next → is_live (task u t).state ≡ true → ((c f : ℕ) → h ≡ start c f → object u c ≡ Object.Coroutine f CoroutineState.Running) → Over u → LeftAs Over (run u t h)
  unfolding run
  run-left u t h l lv used k =
      record {
        failing = k2;
        low = λ v i e. subst (λ (j : ℕ). j < (header (set_moment (set_state u t TaskState.Running) (Moment.Running (task_id t)))).next) (same-task t v h i e) (subst (λ (j : ℕ). t < j) (sym k2.next) l);
        started = λ v i e. subst (λ (j : ℕ). is_unstarted (task (set_moment (set_state u t TaskState.Running) (Moment.Running (task_id t))) j).state ≡ false) (same-task t v h i e) on;
        alive = λ v i e. subst (λ (j : ℕ). is_live (task (set_moment (set_state u t TaskState.Running) (Moment.Running (task_id t))) j).state ≡ true) (same-task t v h i e) lives;
        used = λ v c f e. rows c ∙ used c f (same-how t v h (start c f) e);
      }
    where
      room : t < task_limit
      room = omega (arith, l, (header-fits m).next_fits)

      k1 : Over (set_state u t TaskState.Running)
      k1 = state_failing s m Young B X R ⊥ u t TaskState.Running room tt lv refl k

      k2 : Over (set_moment (set_state u t TaskState.Running) (Moment.Running (task_id t)))
      k2 = moment_failing s m Young B X R ⊥ _ (Moment.Running (task_id t)) room k1

      same-task : (t v : ℕ) (h i : How) → runs t h ≡ runs v i → t ≡ v
      same-task t v h i e = cc

      same-how : (t v : ℕ) (h i : How) → runs t h ≡ runs v i → h ≡ i
      same-how t v h i e = cc

      rows : (c : ℕ) → object (set_moment (set_state u t TaskState.Running) (Moment.Running (task_id t))) c ≡ object u c
      rows c = moment_row (set_state u t TaskState.Running) (Moment.Running (task_id t)) c ∙ (unfold object set_state put_task in refl)

      r : Task
      r = restate (task u t) TaskState.Running

      r-fits : TaskFits r
      r-fits = unfold restate in (record { state_fits = tt; awaiter_fits = (task-fits u t).awaiter_fits; coroutine_fits = (task-fits u t).coroutine_fits })

      lives : is_live (task (set_moment (set_state u t TaskState.Running) (Moment.Running (task_id t))) t).state ≡ true
      lives = same_row ∙ (ap (λ (y : Task). is_live y.state) (task_put-task u t r k.sized room r-fits) ∙ (unfold restate in refl))
        where
          same_row : is_live (task (set_moment (set_state u t TaskState.Running) (Moment.Running (task_id t))) t).state ≡ is_live (task (put_task u t r) t).state
          same_row = unfold task set_moment put_header set_state in refl

      on : is_unstarted (task (set_moment (set_state u t TaskState.Running) (Moment.Running (task_id t))) t).state ≡ false
      on = same_row ∙ (ap (λ (y : Task). is_unstarted y.state) (task_put-task u t r k.sized room r-fits) ∙ (unfold restate in refl))
        where
          same_row : is_unstarted (task (set_moment (set_state u t TaskState.Running) (Moment.Running (task_id t))) t).state ≡ is_unstarted (task (put_task u t r) t).state
          same_row = unfold task set_moment put_header set_state in refl

  module _ (D : ℕ → Type 0) (hd : Header) (same_next : hd.next ≡ (header m).next) where
    room_of : {Q : ℕ → Type 0} {r : ℕ → Bool} (u : Store) (t : ℕ) → t < hd.next → SoundDuring Q r D hd u → t < task_limit
    unfolding view
    room_of u t l h = omega (arith, subst (λ (y : Header). t < y.next) (sym h.head) l, h.kept.but.fits.next_fits)

    pub Keeps : (Store → ℕ → Switched) → Type 0
    Keeps act = (u : Store) (t : ℕ) → t < hd.next → Activated (task u t).state → SoundDuring Nothing idle D hd u → K u → LeftAs Over (act u t)

    module _ (act : Store → ℕ → Switched) (go : Keeps act) where
      pub next-left : (u : Store) → SoundDuring Nothing idle D hd u → K u → LeftAs Over (resume_next act u)
      unfolding Keeps put_queue task
      next-left u h k =
          next-by D hd (λ x y. LeftAs Over x) act act u h (yields u k)
          (λ q t l off r d. go (put_queue u q) t l (ready_activated _ r) d (unfold put_queue in (queue_failing s m Young B X R (Unit {0}) u q k)))

      pub exit_left : (d : Delivery) → DeliveryEnds idle D hd d → ((t : ℕ) → d.woken ≡ some t → Activated (task (remove_from_ready_queue d.store t) t).state) → K d.store
          → LeftAs Over (resume_after_task_exit act d)
      unfolding Keeps remove_from_ready_queue put_queue task
      exit_left d h active k =
          exit_by D hd (λ x y. LeftAs Over x) act act d h (yields d.store k)
          (λ q t l off r i. go (put_queue d.store q) t l (ready_activated _ r) i (unfold put_queue in (queue_failing s m Young B X R (Unit {0}) d.store q k)))
          (λ q t e l off i. go (put_queue d.store q) t l (active t e) i (unfold put_queue in (queue_failing s m Young B X R (Unit {0}) d.store q k)))

      -- a live task fails, its coroutine having raised e as Q says
      pub failed-left : (Q : ℕ → Error → Type 0) (u : Store) (t : ℕ) (e : Error) (r : ℕ → Bool) → ErrorFits e → B e → suc t < hd.next → T (is_live (task u (suc t)).state) → is_blocked (task u (suc t)).state ≡ false
          → ((v : ℕ) → (v ≡ suc t → ⊥) → r v ≡ false) → SoundDuring Nothing r D hd u → Up s m Young B X (task u (suc t)).coroutine.0 (task u (suc t)).awaiter → Q (task u (suc t)).coroutine.0 e
          → ExitAs s X (add_log (remove_task (deliver_awaiter_failure u (task u (suc t)).awaiter e).store (suc t)) (exited (suc t))) (suc t)
          → ((o : ℕ) (d : Error) → Q o d → Raised s R (add_log (remove_task (deliver_awaiter_failure u (task u (suc t)).awaiter e).store (suc t)) (exited (suc t))) o d)
          → Failing s m Young B X Q Unit u → LeftAs Over (handle_task_failure act u (suc t) e)
      unfolding handle_task_failure
      failed-left Q u t e r f b l live free still h i q why back k =
          let a : Awaiter = (task u (suc t)).awaiter in
          let o : ℕ = (task u (suc t)).coroutine.0 in
          let d : Delivery = deliver_awaiter_failure u a e in
          let sent : DeliveryEnds r D hd d = failure_keeps r D hd e f u o a (task_delivering u t h l live) in
          let k1 : Failing s m Young B X Q Unit d.store = failure_failing s m Young B X P sound up Q (Unit {0}) e f b u o a (task-fits u (suc t)).awaiter_fits i (by_task q) k in
          exit_left _ (record {
            during = remove_keeps d.store (suc t) sent.during (subst (λ (y : Header). suc t < y.next) (sym sent.during.head) l) (exited (suc t)) idle refl still;
            woken = sent.woken;
          }) (failure_activated u (suc t) e k.sized f free)
          (failing_as s m Young B X Q R (Unit {0}) _ back (exit_failing s m Young B X Q (Unit {0}) d.store (suc t) why k1))

      -- a task that has not started is started, or fails because its coroutine is not new
      start_left : (u : Store) (t : ℕ) → suc t < hd.next → (task u (suc t)).state ≡ TaskState.Unstarted → SoundDuring Nothing idle D hd u → K u → LeftAs Over (start_task act u (suc t))
      unfolding start_task
      start_left u t l fr h k = by (new_function (object u c)) refl
        where
          c : ℕ
          c = (task u (suc t)).coroutine.0

          low : suc t < (header m).next
          low = subst (λ (j : ℕ). suc t < j) same_next l

          live : is_live (task u (suc t)).state ≡ true
          live = ap is_live fr

          was : TaskAs m u (suc t)
          was = k.tasks (suc t) low live

          new-m : is_unstarted (task m (suc t)).state ≡ true
          new-m = was.unstarted (ap is_unstarted fr)

          unstarted-is : (x : TaskState) → is_unstarted x ≡ true → x ≡ TaskState.Unstarted
          unstarted-is TaskState.Absent e = absurd (true≢false (sym e))
          unstarted-is TaskState.Unstarted e = refl
          unstarted-is TaskState.Running e = absurd (true≢false (sym e))
          unstarted-is (TaskState.Woken v) e = absurd (true≢false (sym e))
          unstarted-is (TaskState.Raised v) e = absurd (true≢false (sym e))
          unstarted-is (TaskState.Blocked o) e = absurd (true≢false (sym e))

          is-old : new_function (object u c) ≡ none → suc t < (header s).next
          is-old q = at (ltb (suc t) (header s).next) refl
            where
              at : (b : Bool) → ltb (suc t) (header s).next ≡ b → suc t < (header s).next
              at true d = ltb-true (suc t) (header s).next d
              at false d =
                  let y = k.fresh tt (suc t) (ltb-false (suc t) (header s).next d) low in
                  let z : object u c ≡ Object.Coroutine y.0 CoroutineState.New = ap (λ (i : HeapId). object u i.0) was.coroutine ∙ y.1 in
                  absurd_some (sym q ∙ (ap new_function z ∙ is_new y.0))
                where
                  is_new : (f : ℕ) → new_function (Object.Coroutine f CoroutineState.New) ≡ some f
                  is_new f = unfold new_function in refl

          module-free : is_blocked (task u (suc t)).state ≡ false
          module-free = ap is_blocked fr

          fails : new_function (object u c) ≡ none → LeftAs Over (handle_task_failure act u (suc t) Error.CoroutineReuse)
          fails q =
              failed-left Q u t Error.CoroutineReuse idle tt reuse l (holds _ live) module-free (λ v d. refl) h delivers_on (inr (refl, refl)) (at_first first) back
              (failing_as s m Young B X R Q (Unit {0}) u (λ o e r. by_task (inl r)) k)
            where
              Q : ℕ → Error → Type 0
              Q o e = R o e ⊎ ((o ≡ c) × (e ≡ Error.CoroutineReuse))

              old : suc t < (header s).next
              old = is-old q

              row : task m (suc t) ≡ task s (suc t)
              row = older (suc t) old low new-m

              co : (task s (suc t)).coroutine.0 ≡ c
              co = ap (λ (y : Task). y.coroutine.0) (sym row) ∙ ap (λ (i : HeapId). i.0) (sym was.coroutine)

              a : Awaiter
              a = (task u (suc t)).awaiter

              delivers_on : Up s m Young B X c a
              delivers_on = subst (λ (j : ℕ). Up s m Young B X j a) (ap (λ (i : HeapId). i.0) (sym was.coroutine)) (task_up (suc t) a old low was.live (sym was.awaiter))

              d : Store
              d = (deliver_awaiter_failure u a Error.CoroutineReuse).store

              v : Store
              v = add_log (remove_task d (suc t)) (exited (suc t))

              d-sized : Sized d
              d-sized = (failure_kept (Used c) (used-closed c) u a Error.CoroutineReuse (task-fits u (suc t)).awaiter_fits (record { sized = k.sized; used = q })).sized

              first : FirstRun s v (suc t)
              first =
                  record {
                    low = old;
                    was = unstarted-is (task s (suc t)).state (sym (ap (λ (y : Task). is_unstarted y.state) row) ∙ new-m);
                    gone = same_live ∙ (live-put_task d (suc t) absent d-sized (room_of u (suc t) l h) ∙ (unfold absent in refl));
                    logged = unfold exits_in add_log in (rw (eq-eqb (suc t) (suc t) refl));
                    used = subst (λ (j : ℕ). new_function (object v j) ≡ none) (sym co) (same_row ∙ failure-used c u a Error.CoroutineReuse k.sized (task-fits u (suc t)).awaiter_fits q);
                  }
                where
                  same_live : is_live (task v (suc t)).state ≡ is_live (task (put_task d (suc t) absent) (suc t)).state
                  same_live = unfold task add_log remove_task remove_from_ready_queue put_queue in refl

                  same_row : new_function (object v c) ≡ new_function (object d c)
                  same_row = unfold object add_log remove_task remove_from_ready_queue put_queue put_task in refl

              back : (o : ℕ) (e : Error) → Q o e → Raised s R v o e
              back o e (inl r) = by_task r
              back o e (inr y) = by_first_run (suc t) first (co ∙ sym y.0) y.1

          by : (n : Option ℕ) → new_function (object u c) ≡ n → LeftAs Over (start_by act u (suc t) c n)
          by none q = unfold start_by in (fails q)
          by (some f) q = unfold start_by in (runs_on f q)
            where
              runs_on : (f : ℕ) → new_function (object u c) ≡ some f → LeftAs Over (run (put_object u c (Object.Coroutine f CoroutineState.Running)) (suc t) (start c f))
              runs_on f q =
                  let row : object u c ≡ Object.Coroutine f CoroutineState.New = new-object (object u c) f q in
                  let fits : ObjectFits (Object.Coroutine f CoroutineState.Running) = subst ObjectFits row (object-fits u c) in
                  run-left (put_object u c (Object.Coroutine f CoroutineState.Running)) (suc t) (start c f) low (unfold task put_object in (unfold task in live))
                  (λ d g e. subst (λ (j : ℕ). object (put_object u c (Object.Coroutine f CoroutineState.Running)) j ≡ Object.Coroutine g CoroutineState.Running) (same_start c d f g e)
                  (object_put-object u c (Object.Coroutine f CoroutineState.Running) k.sized (task-fits u (suc t)).coroutine_fits fits ∙ ap (λ (j : ℕ). Object.Coroutine j CoroutineState.Running) (same-function c d f g e)))
                  (row_failing s m Young B X R ⊥ u c _ (task-fits u (suc t)).coroutine_fits fits (subst (λ (x : Object). ClimbMoves x (Object.Coroutine f CoroutineState.Running)) (sym row) (refl, tt))
                  (λ g n e w p i. absurd (subst FailedRow (sym i) tt)) (λ z. absurd z) (over u k))
                where
                  same_start : (c d f g : ℕ) → start c f ≡ start d g → c ≡ d
                  same_start c d f g e = cc

                  same-function : (c d f g : ℕ) → start c f ≡ start d g → f ≡ g
                  same-function c d f g e = cc

      state-left : (u : Store) (t : ℕ) (x : TaskState) → t < hd.next → (task u t).state ≡ x → Activated x → SoundDuring Nothing idle D hd u → K u → LeftAs Over (activate_state act u t x)
      unfolding activate_state view
      state-left u zero _ l e Rattle.machine_theorems.specs.Panics.NoPanicLaws.starts h k = absurd (main_started h.kept.but e)
      state-left u (suc t) _ l e Rattle.machine_theorems.specs.Panics.NoPanicLaws.starts h k = start_left u t l e h k
      state-left u t _ l e (goes_on v) h k = run-left u t (value v) (subst (λ (j : ℕ). t < j) same_next l) (ap is_live e) (λ c f d. not-start-value v c f d) (over u k)
      state-left u t _ l e (raises_it v) h k = run-left u t (raises v) (subst (λ (j : ℕ). t < j) same_next l) (ap is_live e) (λ c f d. not-start-raise v c f d) (over u k)

    within_left : (n : ℕ) → Keeps (activate_within n)
    unfolding activate_within Keeps
    within_left zero u t l a h k = yields u k
    within_left (suc n) u t l a h k = state-left (λ x v. activate_within n x v) (within_left n) u t (task u t).state l refl a h k

    pub activate-left : Keeps activate
    unfolding activate Keeps
    activate-left u t l a h k = within_left (live_count u) u t l a h k

    -- the next ready task runs
    pub resume-left : (u : Store) → SoundDuring Nothing idle D hd u → K u → LeftAs Over (resume_next activate u)
    resume-left u h k = next-left activate activate-left u h k
