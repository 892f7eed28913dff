-- For whom each task was spawned and who has exited, through every event but cancel, until the end.
use Rattle.std.specs.Prelude.{◌⊎◌, ◌≡◌, Bool, ◌||◌, eqb}
use Rattle.std.proofs.Math.Logic.{inl, inr}
use Rattle.std.proofs.Math.Path.{refl, ap}
use Rattle.std.proofs.Common.{sym, subst, ◌∙◌, true≢false, arith, ne_eqb, ltb-false}
use Rattle.std.proofs.Math.Bool.{true, false}
use mathlib.Core.List.{List, []}
use Rattle.std.proofs.Math.Option.{Option, none, some}
use Prim.Native.Nat.{ℕ, zero, suc, ◌+◌, ◌-◌, ◌≤◌, ◌<◌}
use Rattle.std.proofs.Math.Nat.{not-suc-le-zero}
use Rattle.std.proofs.Math.Decide.{ℕ_discrete, dec_lt}
use Rattle.std.proofs.Math.Dec.{ltb}
use Rattle.std.proofs.Math.ListN.{length}
use Rattle.asyncio.specs.declared.Value.{Value}
use Rattle.asyncio.specs.declared.Error.{Error}
use Rattle.asyncio.specs.declared.TaskState.{TaskState}
use Rattle.asyncio.specs.declared.Task.{Task}
use Rattle.asyncio.specs.declared.CoroutineState.{CoroutineState}
use Rattle.asyncio.specs.declared.ExternalFutureState.{ExternalFutureState}
use Rattle.asyncio.specs.declared.Object.{Object}
use Rattle.asyncio.specs.declared.Header.{Header}
use Rattle.asyncio.specs.declared.Moment.{Moment}
use Rattle.asyncio.specs.Limits.{object_limit, task_limit, item_limit, place_limit, call_limit}
use Rattle.asyncio.specs.Numbers.{heap_id, task_id}
use Rattle.asyncio.specs.Ranges.{HeaderFits}
use Rattle.asyncio.specs.RangeLaws.{pick_has}
use Rattle.asyncio.specs.Layout.{object_words, to_object}
use Rattle.asyncio.specs.States.{is_live, is_ready, is_blocked, is_unstarted}
use Rattle.machine.specs.Store.{Store, LogEntry, task, object, header, put_task, put_header, put_object, put_place, put_places, put_queue, add_log, set_state, restate, set_moment, set_next, set_calls, add_object, blocked, reached, exited}
use Rattle.machine.specs.Scheduler.{PendingExternal, as_pending, make_ready, push_ready, remove_from_ready_queue, remove_task, spawn_as}
use Rattle.machine.specs.Delivery.{deliver_awaiter_failure}
use Rattle.machine.specs.Events.{activate, new_function, completed, handle_task_completion, handle_task_failure, exec_get_awaitable, put_items, make_coroutine, make_pending, make_settled, make_gather, wake_in_order}
use Rattle.machine.specs.Machine.{Event, Step, switched, answer_await, end_main, task_completes, task_fails, runner, resume_with_resolved_futures, refusals, refusal, full, no_number, accept}
use Rattle.machine.specs.History.{says, nothing_said, spawned_by}
use Rattle.machine_laws.specs.Views.{Sized}
use Rattle.machine_laws.specs.Facts.{Nothing}
use Rattle.machine_laws.specs.StoreLaws.{header-fits, header_put-header, object_put-header, task-fits, live-put_task, task_put-other}
use Rattle.machine_laws.specs.StoreLaws.{sized-put_object, sized-put_place, sized-put_header, sized-put_places, sized-put_queue, sized-add_log, sized-set_state, sized-set_moment, sized-set_calls}
use Rattle.machine_laws.specs.DeliveryLaws.{absurd_some, pending-object}
use Rattle.machine_laws.specs.WokenLaws.{success_woken}
use Rattle.machine_laws.specs.MakingLaws.{items-sized}
use Rattle.machine_laws.specs.SoundLaws.{pass, running-rest, refusal-rest, has_number, not_full}
use Rattle.machine_laws.specs.TestLaws.{or_left, or_right}
use Rattle.machine_laws.specs.Walk.{NewCommits, Delivers, Switches, value-kept, error-kept, batch-kept, next-task-kept, woken-task-kept, failed-task-kept, awaits_kept}
use Rattle.machine_theorems.specs.Soundness.Stores.{SoundStore}
use Rattle.machine_theorems.specs.Soundness.Exits.{runner_low, runner-runs}
use Rattle.machine_theorems.specs.Soundness.Preserved.{running, await-made}
use Rattle.machine_theorems.specs.Soundness.RowFacts.{items-header, ready-live}
use Rattle.machine_sessions.specs.Waits.Calls.{read_back}
use Rattle.machine_sessions.specs.Stall.Standing.{moment_head}
use Rattle.machine_sessions.specs.Stall.StandingEvents.{MainEnds}
use Rattle.machine_sessions.specs.Queue.TrackedEvents.{items-tasks, items-log}
use Rattle.machine_sessions.specs.Stall.SourcedKept.{items-objects}
use Rattle.machine_sessions.specs.Places.TellingAwait.{Row, row_commits}
use Rattle.machine_sessions.specs.Stall.TaskLog.{exits_by, any_coroutine, used_coroutine, used-row, Tasks, tasks-same, row-tasks, turns-tasks, state_tasks, exit_tasks, spawn-tasks}

blocked_is : (x : TaskState) → is_blocked x ≡ true → (is_live x ≡ true) × (is_unstarted x ≡ false)
blocked_is TaskState.Absent e = absurd (true≢false (sym e))
blocked_is TaskState.Unstarted e = absurd (true≢false (sym e))
blocked_is TaskState.Running e = absurd (true≢false (sym e))
blocked_is (TaskState.Woken v) e = absurd (true≢false (sym e))
blocked_is (TaskState.Raised x) e = absurd (true≢false (sym e))
blocked_is (TaskState.Blocked o) e = (refl, refl)

-- a coroutine that is not new
not_new : (x : Object) → any_coroutine x ≡ true → new_function x ≡ none → used_coroutine x ≡ true
unfolding any_coroutine new_function used_coroutine
not_new Object.Unmade a e = absurd (true≢false (sym a))
not_new (Object.Coroutine f CoroutineState.New) a e = absurd_some (sym e)
not_new (Object.Coroutine f CoroutineState.Running) a e = refl
not_new (Object.Coroutine f CoroutineState.Completed) a e = refl
not_new (Object.ExternalFuture c x) a e = absurd (true≢false (sym a))
not_new (Object.GatherFuture f n x) a e = absurd (true≢false (sym a))

-- who exits in an event: the running task, if it completes or fails
unfoldable pub Exits : Store → Event → ℕ → Type 0
Exits s (Event.coroutine f) t = ⊥
Exits s Event.call t = ⊥
Exits s (Event.pending c r) t = ⊥
Exits s (Event.settled v) t = ⊥
Exits s (Event.gather os) t = ⊥
Exits s (Event.await o) t = ⊥
Exits s (Event.complete v) t = t ≡ runner (header s).moment
Exits s (Event.fail n) t = t ≡ runner (header s).moment
Exits s (Event.results rs) t = ⊥
Exits s Event.resume t = ⊥
Exits s (Event.cancel u) t = ⊥
Exits s (Event.show o) t = ⊥
Exits s Event.eager t = ⊥

-- F and X tell for whom each task was spawned and who had exited before the event
module _ (F : ℕ → Option ℕ) (X : ℕ → Bool) where
  abbrev S : Store → ℕ → Option ℕ
  S s t = spawned_by (F t) s.log t

  abbrev Y : Store → ℕ → Bool
  Y s t = exits_by (X t) s.log t

  -- ---- a task with a used coroutine, through a delivery

  record Leaving (t c : ℕ) (u : Store) : Type 0 where
    sized : Sized u
    of-it : S u t ≡ some c
    is_used : used_coroutine (object u c) ≡ true
    lives : is_live (task u t).state ≡ true

  leaving-delivers : (t c : ℕ) → Delivers (Leaving t c)
  leaving-delivers t c =
      record {
        sized = λ s k. k.sized;
        row = λ s o x l y k.
            record {
              sized = sized-put_object s o x k.sized;
              of-it = unfold put_object in k.of-it;
              is_used = used-row s o x c k.sized l y k.is_used;
              lives = unfold task put_object in (unfold task in k.lives);
            };
        values_put = λ s ps e k.
            record {
              sized = sized-put_places s ps e k.sized;
              of-it = unfold put_places in k.of-it;
              is_used = unfold object put_places in (unfold object in k.is_used);
              lives = unfold task put_places in (unfold task in k.lives);
            };
        wakes = λ s v x l b r n k.
            record {
              sized = unfold make_ready push_ready in (sized-add_log _ (reached v) (sized-put_queue _ _ (sized-set_state s v x k.sized)));
              of-it = reached-log s v x k.of-it;
              is_used = unfold object add_log make_ready push_ready put_queue set_state put_task in (unfold object in k.is_used);
              lives = woken-lives s v x l r k.sized k.lives (ℕ_discrete t v);
            };
      }
    where
      reached-log : (s : Store) (v : ℕ) (x : TaskState) → S s t ≡ some c → S (add_log (make_ready s v x) (reached v)) t ≡ some c
      reached-log s v x e = unfold add_log make_ready push_ready put_queue set_state put_task spawned_by in e

      woken-lives : (s : Store) (v : ℕ) (x : TaskState) → v < task_limit → is_ready x ≡ true → Sized s → is_live (task s t).state ≡ true → Dec (t ≡ v) → is_live (task (add_log (make_ready s v x) (reached v)) t).state ≡ true
      woken-lives s v x l r z e d = same ∙ by d
        where
          w : Task
          w = restate (task s v) x

          is-w : is_live w.state ≡ true
          is-w = unfold restate in (ready-live x r)

          same : is_live (task (add_log (make_ready s v x) (reached v)) t).state ≡ is_live (task (put_task s v w) t).state
          same = unfold add_log make_ready push_ready put_queue set_state task in refl

          by : Dec (t ≡ v) → is_live (task (put_task s v w) t).state ≡ true
          by (yes d) = subst (λ (m : ℕ). is_live (task (put_task s v w) m).state ≡ true) (sym d) (live-put_task s v w z l ∙ is-w)
          by (no ne) = ap (λ (y : Task). is_live y.state) (task_put-other s v t w ne) ∙ e

  -- ---- what is logged

  spawn-says : (s : Store) (c g t : ℕ) → S (spawn_as s (header s).next c g) t ≡ elim (eqb (header s).next t) [ true ↦ some c | false ↦ S s t ]
  unfolding spawn_as push_ready add_log put_queue set_next put_header put_task spawned_by
  spawn-says s c g t = refl

  spawn-exits : (s : Store) (c g t : ℕ) → Y (spawn_as s (header s).next c g) t ≡ Y s t
  unfolding spawn_as push_ready add_log put_queue set_next put_header put_task exits_by
  spawn-exits s c g t = refl

  exit-says : (s : Store) (t v : ℕ) → S (add_log (remove_task s t) (exited t)) v ≡ S s v
  unfolding add_log remove_task remove_from_ready_queue put_queue put_task spawned_by
  exit-says s t v = refl

  exit-exits : (s : Store) (t v : ℕ) → Y (add_log (remove_task s t) (exited t)) v ≡ (eqb t v || Y s v)
  unfolding add_log remove_task remove_from_ready_queue put_queue put_task exits_by
  exit-exits s t v = refl

  module _ (L E : ℕ → Type 0) where
    abbrev pub K : Store → Type 0
    K s = Tasks F L E (S s) (Y s) s

    -- tasks and objects as they were, and nobody spawned or gone
    like : (s u : Store) → Sized u → (header u).next ≡ (header s).next → ((t : ℕ) → S u t ≡ S s t) → ((t : ℕ) → Y u t ≡ Y s t) → ((o : ℕ) → object u o ≡ object s o) → ((t : ℕ) → task u t ≡ task s t) → K s → K u
    like s u z n es ey os ts k = tasks-same F L E s u (S s) (S u) (Y s) (Y u) z n es ey (λ c e. ap any_coroutine (os c) ∙ e) (λ c e. ap used_coroutine (os c) ∙ e) ts k

    row_kept : (s : Store) (o : ℕ) (x : Object) → Tasks F L E (S s) (Y s) (put_object s o x) → K (put_object s o x)
    unfolding put_object
    row_kept s o x k = k

    pub tasks_commits : NewCommits K
    tasks_commits =
        record {
          row = λ s o x l t k. row_kept s o x (turns-tasks F L E s o x (S s) (Y s) l t k);
          value_put = λ s p v k. like s _ (sized-put_place s p _ k.sized) (unfold header put_place in refl) (λ t. unfold put_place in refl) (λ t. unfold put_place in refl) (λ o. unfold object put_place in refl) (λ t. unfold task put_place in refl) k;
          spawns = λ s c g f room low new free k. spawn-kept s c g (spawn-tasks F L E s c g f (S s) (Y s) room low new free k);
        }
      where
        spawn-kept : (s : Store) (c g : ℕ) → Tasks F L E (λ t. elim (eqb (header s).next t) [ true ↦ some c | false ↦ S s t ]) (Y s) (spawn_as s (header s).next c g) → K (spawn_as s (header s).next c g)
        spawn-kept s c g k = let u : Store = spawn_as s (header s).next c g in tasks-same F L E u u _ (S u) _ (Y u) k.sized refl (λ t. spawn-says s c g t) (λ t. spawn-exits s c g t) (λ c e. e) (λ c e. e) (λ t. refl) k

    pub tasks_delivers : Delivers K
    tasks_delivers =
        record {
          sized = λ s k. k.sized;
          row = λ s o x l t k. row_kept s o x (turns-tasks F L E s o x (S s) (Y s) l t k);
          values_put = λ s ps e k. like s _ (sized-put_places s ps e k.sized) (unfold header put_places in refl) (λ t. unfold put_places in refl) (λ t. unfold put_places in refl) (λ o. unfold object put_places in refl) (λ t. unfold task put_places in refl) k;
          wakes = λ s t x l b r n k.
              let y = blocked_is (task s t).state b in
              state_tasks F L E s (add_log (make_ready s t x) (reached t)) t x (S s) _ (Y s) _ l (ready-live x r) y.0 n (inl y.1)
              (unfold make_ready push_ready in (sized-add_log _ (reached t) (sized-put_queue _ _ (sized-set_state s t x k.sized)))) (unfold header add_log make_ready push_ready put_queue set_state put_task in refl)
              (λ v. unfold add_log make_ready push_ready put_queue set_state put_task spawned_by in refl) (λ v. unfold add_log make_ready push_ready put_queue set_state put_task exits_by in refl)
              (λ o. unfold object add_log make_ready push_ready put_queue set_state put_task in refl) (λ v. unfold task add_log make_ready push_ready put_queue in refl) k;
        }

    -- a task that lives and has a used coroutine exits
    exits-kept : (s : Store) (t c : ℕ) (M : ℕ → Type 0) → S s t ≡ some c → used_coroutine (object s c) ≡ true → is_live (task s t).state ≡ true → ((v : ℕ) → M v → (v ≡ t) ⊎ E v) → K s
        → Tasks F L M (S (add_log (remove_task s t) (exited t))) (Y (add_log (remove_task s t) (exited t))) (add_log (remove_task s t) (exited t))
    exits-kept s t c M e us lv more k =
        let u : Store = add_log (remove_task s t) (exited t) in
        let y = exit_tasks F L E s t c (S s) (Y s) M e us lv more k in
        tasks-same F L M u u _ (S u) _ (Y u) y.sized refl (λ v. exit-says s t v) (λ v. exit-exits s t v) (λ c e. e) (λ c e. e) (λ v. refl) y

    -- the same after its error was delivered
    fails-kept : (s : Store) (t c : ℕ) (x : Error) (M : ℕ → Type 0) → S s t ≡ some c → used_coroutine (object s c) ≡ true → is_live (task s t).state ≡ true → ((v : ℕ) → M v → (v ≡ t) ⊎ E v)
        → K s → K (deliver_awaiter_failure s (task s t).awaiter x).store
        → Tasks F L M (S (add_log (remove_task (deliver_awaiter_failure s (task s t).awaiter x).store t) (exited t))) (Y (add_log (remove_task (deliver_awaiter_failure s (task s t).awaiter x).store t) (exited t)))
        (add_log (remove_task (deliver_awaiter_failure s (task s t).awaiter x).store t) (exited t))
    fails-kept s t c x M e us lv more k d =
        let y : Leaving t c (deliver_awaiter_failure s (task s t).awaiter x).store =
        error-kept (Leaving t c) (leaving-delivers t c) s (task s t).awaiter x (task-fits s t).awaiter_fits (record { sized = k.sized; of-it = e; is_used = us; lives = lv }) in
        exits-kept _ t c M y.of-it y.is_used y.lives more d

    -- a live task is one that was spawned, or main
    spawned-is : (s : Store) (t : ℕ) → is_live (task s t).state ≡ true → is_unstarted (task s t).state ≡ true → K s → S s t ≡ some (task s t).coroutine.0
    spawned-is s zero lv un k = absurd (true≢false (sym un ∙ k.first))
    spawned-is s (suc t) lv un k = by (dec_lt (suc t) (header s).next)
      where
        by : Dec (suc t < (header s).next) → S s (suc t) ≡ some (task s (suc t)).coroutine.0
        by (yes l) = k.rows t l lv
        by (no nl) = absurd (true≢false (sym lv ∙ k.behind (suc t) (omega (arith, nl))))

    pub tasks-switches : Switches K
    tasks-switches =
        record {
          delivers = tasks_delivers;
          queued = λ s q k. like s _ (sized-put_queue s q k.sized) (unfold header put_queue in refl) (λ t. unfold put_queue in refl) (λ t. unfold put_queue in refl) (λ o. unfold object put_queue in refl) (λ t. unfold task put_queue in refl) k;
          moved = λ s m f k. like s _ (sized-set_moment s m k.sized) (moment_head s m k.sized f).0 (λ t. unfold set_moment put_header in refl) (λ t. unfold set_moment put_header in refl) (λ o. moved_row s m o) (λ t. unfold task set_moment put_header in refl) k;
          runs_on = λ s t l r n k. runs s t l (ready-live (task s t).state r) (inl n) k;
          begins = λ s t f l e n k.
              runs (put_object s (task s t).coroutine.0 (Object.Coroutine f CoroutineState.Running)) t l (unfold task put_object in (unfold task in (ap is_live e)))
              (inr (used-now s t f k.sized)) (row_kept s _ _ (row-tasks F L E s (task s t).coroutine.0 (Object.Coroutine f CoroutineState.Running) (S s) (Y s) (task-fits s t).coroutine_fits (λ a. unfold any_coroutine in refl) (λ a. unfold used_coroutine in refl) k));
          fails = λ s t x l e n k d.
              let q : S s t ≡ some (task s t).coroutine.0 = spawned-is s t (ap is_live e) (ap is_unstarted e) k in
              fails-kept s t (task s t).coroutine.0 x E q (not_new (object s (task s t).coroutine.0) (k.coroutines t _ q) n) (ap is_live e) (λ v y. inr y) k d;
        }
      where
        moved_row : (s : Store) (m : Moment) (o : ℕ) → object (set_moment s m) o ≡ object s o
        moved_row s m o = unfold set_moment in (object_put-header s _ o)

        runs : (s : Store) (t : ℕ) → t < task_limit → is_live (task s t).state ≡ true → (is_unstarted (task s t).state ≡ false) ⊎ (used_coroutine (object s (task s t).coroutine.0) ≡ true) → K s → K (set_state s t TaskState.Running)
        runs s t l lv st k =
            state_tasks F L E s (set_state s t TaskState.Running) t TaskState.Running (S s) _ (Y s) _ l refl lv refl st (sized-set_state s t TaskState.Running k.sized) (unfold header set_state put_task in refl)
            (λ v. unfold set_state put_task in refl) (λ v. unfold set_state put_task in refl) (λ o. unfold object set_state put_task in refl) (λ v. refl) k

        used-now : (s : Store) (t f : ℕ) → Sized s → used_coroutine (object (put_object s (task s t).coroutine.0 (Object.Coroutine f CoroutineState.Running)) (task (put_object s (task s t).coroutine.0 (Object.Coroutine f CoroutineState.Running)) t).coroutine.0) ≡ true
        used-now s t f z = ap (λ (c : ℕ). used_coroutine (object u c)) same ∙ (ap used_coroutine (read_back s (task s t).coroutine.0 (Object.Coroutine f CoroutineState.Running) z (task-fits s t).coroutine_fits) ∙ (unfold used_coroutine in refl))
          where
            u : Store
            u = put_object s (task s t).coroutine.0 (Object.Coroutine f CoroutineState.Running)

            same : (task u t).coroutine.0 ≡ (task s t).coroutine.0
            same = unfold task put_object in refl

    -- a task that runs blocks
    blocks-kept : (s : Store) (t o : ℕ) → t < task_limit → is_live (task s t).state ≡ true → is_unstarted (task s t).state ≡ false → K s → K (add_log (set_state s t (TaskState.Blocked (heap_id o))) (blocked t))
    blocks-kept s t o l lv un k =
        state_tasks F L E s (add_log (set_state s t (TaskState.Blocked (heap_id o))) (blocked t)) t (TaskState.Blocked (heap_id o)) (S s) _ (Y s) _ l refl lv refl (inl un)
        (sized-add_log _ (blocked t) (sized-set_state s t (TaskState.Blocked (heap_id o)) k.sized)) (unfold header add_log set_state put_task in refl)
        (λ v. unfold add_log set_state put_task spawned_by in refl) (λ v. unfold add_log set_state put_task exits_by in refl) (λ p. unfold object add_log set_state put_task in refl) (λ v. unfold task add_log in refl) k

    -- an external settles
    settles-kept : (s : Store) (o : ℕ) (p : PendingExternal) (y : ExternalFutureState) → o < object_limit → as_pending (object s o) ≡ some p → K s → K (put_object s o (Object.ExternalFuture p.call y))
    settles-kept s o p y l e k = row_kept s o _ (row-tasks F L E s o (Object.ExternalFuture p.call y) (S s) (Y s) l (λ a. absurd (true≢false (sym a ∙ none_any))) (λ a. absurd (true≢false (sym a ∙ none-used))) k)
      where
        none_any : any_coroutine (object s o) ≡ false
        none_any = ap any_coroutine (pending-object (object s o) p e) ∙ (unfold any_coroutine in refl)

        none-used : used_coroutine (object s o) ≡ false
        none-used = ap used_coroutine (pending-object (object s o) p e) ∙ (unfold used_coroutine in refl)

    -- an object is made, where none was
    adds-kept : (s : Store) (x : Object) (n : ℕ) → (header s).made < object_limit → (header s).used + n ≤ place_limit → any_coroutine (object s (header s).made) ≡ false → used_coroutine (object s (header s).made) ≡ false → K s
        → K (add_object s x n)
    unfolding add_object
    adds-kept s x n m pl na nu k =
        row_kept u (header s).made x (row-tasks F L E u (header s).made x (S u) (Y u) m (λ a. absurd (true≢false (sym a ∙ (ap any_coroutine (rows (header s).made) ∙ na)))) (λ a. absurd (true≢false (sym a ∙ (ap used_coroutine (rows (header s).made) ∙ nu)))) more)
      where
        i : Header
        i = record { made = (header s).made + 1; used = (header s).used + n; calls = (header s).calls; next = (header s).next; moment = (header s).moment }

        u : Store
        u = put_header s i

        rows : (o : ℕ) → object u o ≡ object s o
        rows o = object_put-header s i o

        head : header u ≡ i
        head =
            let f : HeaderFits (header s) = header-fits s in
            header_put-header s i k.sized (record { made_fits = omega arith; used_fits = pl; calls_fit = f.calls_fit; next_fits = f.next_fits; moment_fits = f.moment_fits })

        more : K u
        more = like s u (sized-put_header s i k.sized) (ap (λ (h : Header). h.next) head) (λ t. unfold put_header in refl) (λ t. unfold put_header in refl) rows (λ t. unfold task put_header in refl) k

    -- a call is handed out
    calls-kept : (s : Store) → (header s).calls < call_limit → K s → K (set_calls s ((header s).calls + 1)) × (header (set_calls s ((header s).calls + 1)) ≡ record { made = (header s).made; used = (header s).used; calls = (header s).calls + 1; next = (header s).next; moment = (header s).moment })
    calls-kept s c k = (
      like s _ (sized-set_calls s _ k.sized) (ap (λ (h : Header). h.next) head) (λ t. unfold set_calls put_header in refl) (λ t. unfold set_calls put_header in refl) rows (λ t. unfold task set_calls put_header in refl) k,
      head,
    )
      where
        rows : (o : ℕ) → object (set_calls s ((header s).calls + 1)) o ≡ object s o
        rows o = unfold set_calls in (object_put-header s _ o)

        head : header (set_calls s ((header s).calls + 1)) ≡ record { made = (header s).made; used = (header s).used; calls = (header s).calls + 1; next = (header s).next; moment = (header s).moment }
        head =
            let f : HeaderFits (header s) = header-fits s in
            unfold set_calls in (header_put-header s _ k.sized (record { made_fits = f.made_fits; used_fits = f.used_fits; calls_fit = omega arith; next_fits = f.next_fits; moment_fits = f.moment_fits }))

  -- ---- the events

  module _ (L : ℕ → Type 0) (s : Store) (h : SoundStore s) (free : any_coroutine (object s (header s).made) ≡ false) (k : Tasks F L Nothing (S s) (Y s) s) where
    free-used : used_coroutine (object s (header s).made) ≡ false
    free-used = by (object s (header s).made) free
      where
        by : (x : Object) → any_coroutine x ≡ false → used_coroutine x ≡ false
        by Object.Unmade e = unfold used_coroutine in refl
        by (Object.Coroutine f x) e = absurd (true≢false (unfold any_coroutine in e))
        by (Object.ExternalFuture c x) e = unfold used_coroutine in refl
        by (Object.GatherFuture f n x) e = unfold used_coroutine in refl

    same_places : (header s).used + 0 ≤ place_limit
    same_places = omega (arith, (header-fits s).used_fits)

    settled-kept : (v : Value) → (header s).calls < call_limit → (header s).made < object_limit → K L Nothing (make_settled s v)
    unfolding make_settled
    settled-kept v c m =
        let y = calls-kept L Nothing s c k in
        adds-kept L Nothing (set_calls s ((header s).calls + 1)) _ 0 (subst (λ (i : Header). i.made < object_limit) (sym y.1) m) (subst (λ (i : Header). i.used + 0 ≤ place_limit) (sym y.1) same_places)
        (subst (λ (i : Header). any_coroutine (object (set_calls s ((header s).calls + 1)) i.made) ≡ false) (sym y.1) (ap any_coroutine (rows (header s).made) ∙ free))
        (subst (λ (i : Header). used_coroutine (object (set_calls s ((header s).calls + 1)) i.made) ≡ false) (sym y.1) (ap used_coroutine (rows (header s).made) ∙ free-used)) y.0
      where
        rows : (o : ℕ) → object (set_calls s ((header s).calls + 1)) o ≡ object s o
        rows o = unfold set_calls in (object_put-header s _ o)

    gather-kept : (os : List ℕ) → (header s).made < object_limit → (header s).used + length os ≤ place_limit → K L Nothing (make_gather s os)
    unfolding make_gather
    gather-kept os m u =
        let i : header (put_items s (header s).used os) ≡ header s = items-header os s (header s).used in
        adds-kept L Nothing (put_items s (header s).used os) _ (length os) (subst (λ (y : Header). y.made < object_limit) (sym i) m) (subst (λ (y : Header). y.used + length os ≤ place_limit) (sym i) u)
        (subst (λ (y : Header). any_coroutine (object (put_items s (header s).used os) y.made) ≡ false) (sym i) (ap any_coroutine (items-objects os s (header s).used (header s).made) ∙ free))
        (subst (λ (y : Header). used_coroutine (object (put_items s (header s).used os) y.made) ≡ false) (sym i) (ap used_coroutine (items-objects os s (header s).used (header s).made) ∙ free-used))
        (like L Nothing s (put_items s (header s).used os) (items-sized os s (header s).used k.sized) (ap (λ (y : Header). y.next) i) (λ t. ap (λ (l : List LogEntry). spawned_by (F t) l t) (items-log os s (header s).used))
        (λ t. ap (λ (l : List LogEntry). exits_by (X t) l t) (items-log os s (header s).used)) (items-objects os s (header s).used) (items-tasks os s (header s).used) k)

    await-kept : (t o : ℕ) → (header s).moment ≡ Moment.Running (task_id t) → o < object_limit → K L Nothing (exec_get_awaitable s t o).store
    await-kept t o m low =
        awaits_kept J (K L Nothing) first (tasks-switches L Nothing) (λ u j. j.0) t o low
        (λ u j. blocks-kept L Nothing u t o (omega (arith, j.1.low, (header-fits u).next_fits)) (ap (λ (y : Task). is_live y.state) j.1.row ∙ ap is_live runs_now) (ap (λ (y : Task). is_unstarted y.state) j.1.row ∙ ap is_unstarted runs_now) j.0)
        s (k, record { sized = k.sized; low = runner_low s t h m; row = refl; moment = m })
      where
        runs_now : (task s t).state ≡ TaskState.Running
        runs_now = runner-runs s t h m

        J : Store → Type 0
        J u = K L Nothing u × Row t (task s t) (Moment.Running (task_id t)) u

        first : NewCommits J
        first =
            record {
              row = λ u p x l y j. ((tasks_commits L Nothing).row u p x l y j.0, (row_commits t (task s t) (Moment.Running (task_id t))).row u p x l y j.1);
              value_put = λ u p v j. ((tasks_commits L Nothing).value_put u p v j.0, (row_commits t (task s t) (Moment.Running (task_id t))).value_put u p v j.1);
              spawns = λ u c g f room l new none_of j. ((tasks_commits L Nothing).spawns u c g f room l new none_of j.0, (row_commits t (task s t) (Moment.Running (task_id t))).spawns u c g room j.1);
            }

    -- the running task was spawned, and its coroutine is not new
    module _ (t : ℕ) (m : (header s).moment ≡ Moment.Running (task_id (suc t))) where
      abbrev c : ℕ
      c = (task s (suc t)).coroutine.0

      runs : (task s (suc t)).state ≡ TaskState.Running
      runs = runner-runs s (suc t) h m

      of-it : S s (suc t) ≡ some c
      of-it = k.rows t (runner_low s (suc t) h m) (ap is_live runs)

      is_used : used_coroutine (object s c) ≡ true
      is_used = k.started t (runner_low s (suc t) h m) (ap is_live runs) (ap is_unstarted runs)

      failed-kept : (x : Error) → K L (λ v. v ≡ suc t) (handle_task_failure activate s (suc t) x).store
      failed-kept x =
          failed-task-kept (K L (λ v. v ≡ suc t)) (tasks-switches L (λ v. v ≡ suc t)) s (suc t) x k.sized
          (fails-kept L Nothing s (suc t) c x (λ v. v ≡ suc t) of-it is_used (ap is_live runs) (λ v d. inl d) k (error-kept (K L Nothing) (tasks_delivers L Nothing) s (task s (suc t)).awaiter x (task-fits s (suc t)).awaiter_fits k))

      done-any : any_coroutine (object s c) ≡ true → any_coroutine (to_object (object_words (completed (object s c)))) ≡ true
      done-any = by (object s c)
        where
          by : (x : Object) → any_coroutine x ≡ true → any_coroutine (to_object (object_words (completed x))) ≡ true
          by Object.Unmade e = absurd (true≢false (sym (unfold any_coroutine in e)))
          by (Object.Coroutine f x) e = unfold any_coroutine completed in refl
          by (Object.ExternalFuture d x) e = absurd (true≢false (sym (unfold any_coroutine in e)))
          by (Object.GatherFuture f n x) e = absurd (true≢false (sym (unfold any_coroutine in e)))

      done-used : used_coroutine (object s c) ≡ true → used_coroutine (to_object (object_words (completed (object s c)))) ≡ true
      done-used = by (object s c)
        where
          by : (x : Object) → used_coroutine x ≡ true → used_coroutine (to_object (object_words (completed x))) ≡ true
          by Object.Unmade e = absurd (true≢false (sym (unfold used_coroutine in e)))
          by (Object.Coroutine f x) e = unfold used_coroutine completed in refl
          by (Object.ExternalFuture d x) e = absurd (true≢false (sym (unfold used_coroutine in e)))
          by (Object.GatherFuture f n x) e = absurd (true≢false (sym (unfold used_coroutine in e)))

      completed-kept : (v : Value) → K L (λ u. u ≡ suc t) (handle_task_completion s (suc t) v).store
      unfolding handle_task_completion
      completed-kept v =
          let M : ℕ → Type 0 = λ u. u ≡ suc t in
          let done : Store = put_object s c (completed (object s c)) in
          let left : Store = add_log (remove_task done (suc t)) (exited (suc t)) in
          let k1 : K L Nothing done = row_kept L Nothing s c _ (row-tasks F L Nothing s c (completed (object s c)) (S s) (Y s) (task-fits s (suc t)).coroutine_fits done-any done-used k) in
          let k2 : K L M left = exits-kept L Nothing done (suc t) c M says-it used-it live-it (λ u d. inl d) k1 in
          woken-task-kept (K L M) (tasks-switches L M) _ (success_woken left (task s (suc t)).awaiter v k2.sized (task-fits s (suc t)).awaiter_fits)
          (value-kept (K L M) (tasks_delivers L M) left (task s (suc t)).awaiter v (task-fits s (suc t)).awaiter_fits k2)
        where
          says-it : S (put_object s c (completed (object s c))) (suc t) ≡ some c
          says-it = unfold put_object in of-it

          live-it : is_live (task (put_object s c (completed (object s c))) (suc t)).state ≡ true
          live-it = unfold task put_object in (unfold task in (ap is_live runs))

          used-it : used_coroutine (object (put_object s c (completed (object s c))) c) ≡ true
          used-it = ap used_coroutine (read_back s c (completed (object s c)) k.sized (task-fits s (suc t)).coroutine_fits) ∙ done-used is_used

    complete-step : (t : ℕ) (v : Value) → (header s).moment ≡ Moment.Running (task_id t) → (t ≡ 0 → ⊥) → K L (λ u. u ≡ t) (task_completes s t v).store
    unfolding task_completes end_main switched
    complete-step zero v m on = absurd (on refl)
    complete-step (suc t) v m on = rw (ne_eqb (suc t) 0 (λ e. not-suc-le-zero {n = 0} (omega arith))) (completed-kept t m v)

    fail-step : (t : ℕ) (x : Error) → (header s).moment ≡ Moment.Running (task_id t) → (t ≡ 0 → ⊥) → K L (λ u. u ≡ t) (task_fails s t x).store
    unfolding task_fails end_main switched
    fail-step zero x m on = absurd (on refl)
    fail-step (suc t) x m on = rw (ne_eqb (suc t) 0 (λ e. not-suc-le-zero {n = 0} (omega arith))) (failed-kept t m x)

    resume-step : K L Nothing (resume_with_resolved_futures s).store
    unfolding resume_with_resolved_futures switched
    resume-step = pick_has (λ (x : Step). K L Nothing x.store) (eqb s.queue.len 0) k (next-task-kept (K L Nothing) (tasks-switches L Nothing) s k)

    -- Every event but cancel, until the end; the running task that completes or fails has exited.
    pub accept-tasks : (e : Event) → (says e).cancels ≡ false → refusal s e ≡ 0 → (MainEnds s e → ⊥)
        → Tasks F L (Exits s e) (S (accept s e).store) (Y (accept s e).store) (accept s e).store
    unfolding accept refusals make_coroutine make_pending says nothing_said answer_await Exits MainEnds
    accept-tasks (Event.coroutine f) n r on = adds-kept L Nothing s _ 0 (not_full s (pass 6 (full s) [] (running-rest s _ (refusal-rest s (Event.coroutine f) r))).0) same_places free free-used k
    accept-tasks Event.call n r on = (calls-kept L Nothing s (has_number s (pass 7 (no_number s) [] (running-rest s _ (refusal-rest s Event.call r))).0) k).0
    accept-tasks (Event.pending d x) n r on =
        adds-kept L Nothing s _ 0 (not_full s (pass 6 (full s) [] (pass 5 _ _ (pass 4 _ _ (running-rest s _ (refusal-rest s (Event.pending d x) r))).1).1).0) same_places free free-used k
    accept-tasks (Event.settled v) n r on =
        let q = pass 6 (full s) _ (pass 4 _ _ (running-rest s _ (refusal-rest s (Event.settled v) r))).1 in
        settled-kept v (has_number s (pass 7 (no_number s) [] q.1).0) (not_full s q.0)
    accept-tasks (Event.gather os) n r on =
        let q = (pass 6 (full s || ltb item_limit (length os) || ltb place_limit ((header s).used + length os)) [] (pass 4 _ _ (running-rest s _ (refusal-rest s (Event.gather os) r))).1).0 in
        gather-kept os (not_full s (or_left (full s) (ltb item_limit (length os)) (or_left (full s || ltb item_limit (length os)) (ltb place_limit ((header s).used + length os)) q)))
        (ltb-false place_limit ((header s).used + length os) (or_right (full s || ltb item_limit (length os)) (ltb place_limit ((header s).used + length os)) q))
    accept-tasks (Event.await o) n r on =
        let q = refusal-rest s (Event.await o) r in await-kept (runner (header s).moment) o (running s h _ q) (omega (arith, await-made s h o q, (header-fits s).made_fits))
    accept-tasks (Event.complete v) n r on = complete-step (runner (header s).moment) v (running s h _ (refusal-rest s (Event.complete v) r)) on
    accept-tasks (Event.fail m) n r on = fail-step (runner (header s).moment) (Error.Script m) (running s h _ (refusal-rest s (Event.fail m) r)) on
    accept-tasks (Event.results rs) n r on =
        unfold wake_in_order in ((tasks-switches L Nothing).queued _ _ (batch-kept (K L Nothing) (tasks_delivers L Nothing) (settles-kept L Nothing) rs s k))
    accept-tasks Event.resume n r on = resume-step
    accept-tasks (Event.cancel t) n r on = absurd (true≢false n)
    accept-tasks (Event.show o) n r on = k
    accept-tasks Event.eager n r on = k
