-- The events that end or remove tasks: complete, fail, the session's end, cancel; and resume.
use Rattle.std.specs.Prelude.{◌≡◌, Bool, ◌&&◌, eqb, get_or}
use Rattle.std.proofs.Math.Path.{refl, ap, subst}
use Rattle.std.proofs.Common.{sym, ◌∙◌, true≢false, le_refl, not-suc-le-zero, arith}
use Rattle.std.proofs.Math.Logic.{inl}
use Rattle.std.proofs.Math.Bool.{true, false, not}
use mathlib.Core.List.{List, [], ◌∷◌}
use Rattle.std.proofs.Math.Option.{Option, none, some}
use Prim.Native.Nat.{ℕ, zero, suc, ◌+◌, ◌-◌, ◌<◌}
use Rattle.std.proofs.Math.Decide.{ℕ_discrete}
use Rattle.std.proofs.Math.Dec.{T, ltb→lt}
use borrow.Author.Tests.{eq-eqb, ne_eqb}
use Rattle.asyncio.specs.declared.HeapId.{HeapId}
use Rattle.asyncio.specs.declared.Value.{Value}
use Rattle.asyncio.specs.declared.Error.{Error}
use Rattle.asyncio.specs.declared.Task.{Task}
use Rattle.asyncio.specs.declared.TaskState.{TaskState}
use Rattle.asyncio.specs.declared.Awaiter.{Awaiter}
use Rattle.asyncio.specs.declared.CoroutineState.{CoroutineState}
use Rattle.asyncio.specs.declared.Object.{Object}
use Rattle.asyncio.specs.declared.Header.{Header}
use Rattle.asyncio.specs.declared.Moment.{Moment}
use Rattle.asyncio.specs.Limits.{object_limit}
use Rattle.asyncio.specs.Ranges.{ObjectFits, ErrorFits}
use Rattle.asyncio.specs.Numbers.{heap_id, task_id}
use Rattle.asyncio.specs.States.{pick, is_nobody, is_live, is_unstarted, is_running}
use Rattle.asyncio.specs.Kinds.{kind, is_coroutine, is_completed}
use Rattle.asyncio.specs.Parts.{awaiter_of}
use Rattle.queue.specs.declared.ReadyQueue.{ReadyQueue}
use Rattle.queue.specs.Queue.{entries, empty_queue, remove}
use Rattle.queue.proofs.QueueLaws.{entries-empty}
use Rattle.machine.specs.Store.{Store, View, view, task, object, place, header, put_task, put_object, put_queue, add_log, absent, LogEntry, exited, removed}
use Rattle.rows.specs.Tables.{task_at}
use Rattle.machine.specs.Scheduler.{AwaitedGather, as_awaited, is_some, bit, pending_call_ids, blocked_on, remove_from_ready_queue, remove_task, task_of_in, task_of, cancel_one, Walk, reach_if, reach, remove_blocked, still_live, visit_by, visit, visit_place, visit_open, walk_gather, walk_next, walk, walk_from, cancel_task, remove_from, cleanup}
use Rattle.machine.specs.Delivery.{deliver_awaiter_success}
use Rattle.machine.specs.Events.{handle_task_failure, activate, completed, handle_task_completion, resume_next}
use Rattle.machine.specs.Machine.{switched, repeat_wait, resume_with_resolved_futures}
use Rattle.machine.specs.Sound.{is_slot, task_in_range, value_known, state_values, is_ended, is_task_of_at, runs_now, runner_in_range}
use Rattle.machine_laws.specs.Views.{update}
use Rattle.machine_laws.specs.Facts.{SoundBut, Nothing}
use Rattle.machine_laws.specs.TestLaws.{holds, both, both_left, both_right}
use Rattle.machine_laws.specs.ValueLaws.{value_stays}
use Rattle.machine_laws.specs.StoreLaws.{update_case, update_same, update_other, object-fits}
use Rattle.machine_laws.specs.DeliveryLaws.{absurd_some, first_below}
use Rattle.machine_laws.specs.MakingLaws.{nobody_slot}
use Rattle.machine_theorems.specs.Soundness.ReadyTasks.{Queued, none-ready}
use Rattle.machine_theorems.specs.Soundness.PutObject.{by_object, by_task}
use Rattle.machine_theorems.specs.Soundness.PutTask.{is_task_of_give, with_task_queue, TaskWrite}
use Rattle.machine_theorems.specs.Soundness.Stores.{Kept, Runs, idle, SoundDuring, SoundStore, view_task_queue, object-during, task-during, queue_during, add_log-during, during_of, sound_store_during, moment_sound_store}
use Rattle.machine_theorems.specs.Soundness.Deliver.{DeliveryEnds, Detached, take_off}
use Rattle.machine_theorems.specs.Soundness.Fill.{Alone, DeliveringValue, success_keeps}
use Rattle.machine_theorems.specs.Soundness.Cycle.{Spawned, spawned_of, not-a_task, coroutine-is, no_awaiter, task_detached, coroutine_fits, absent_in_range, absent-fits, remove_keeps, next_keeps, exit_keeps, failure_exit, activate_keeps}

-- ---- the running task

pub is_run_state : (x : TaskState) → is_running x ≡ true → x ≡ TaskState.Running
is_run_state TaskState.Absent e = absurd (true≢false (sym e))
is_run_state TaskState.Unstarted e = absurd (true≢false (sym e))
is_run_state TaskState.Running e = refl
is_run_state (TaskState.Woken v) e = absurd (true≢false (sym e))
is_run_state (TaskState.Raised v) e = absurd (true≢false (sym e))
is_run_state (TaskState.Blocked o) e = absurd (true≢false (sym e))

-- In the moment of task t, that task runs and no other does.
module _ (s : Store) (t : ℕ) (h : SoundStore s) (m : (header s).moment ≡ Moment.Running (task_id t)) where
  pub runner_low : t < (header s).next
  unfolding view runner_in_range
  runner_low = ltb→lt t (header s).next (subst (λ (y : Moment). T (runner_in_range (header s).next y)) m h.facts.runner)

  pub runner-runs : (task s t).state ≡ TaskState.Running
  unfolding view runs_now
  runner-runs = is_run_state _ (h.facts.runs t runner_low ∙ (ap (λ (y : Moment). runs_now y t) m ∙ eq-eqb t t refl))

  pub runner-live : T (is_live (task s t).state)
  runner-live = rw runner-runs tt

  pub others_commits_none : (u : ℕ) → (u ≡ t → ⊥) → runs_now (header s).moment u ≡ false
  unfolding runs_now
  others_commits_none u d = ap (λ (y : Moment). runs_now y u) m ∙ ne_eqb t u (λ q. d (sym q))

  pub commits_none_on : is_ended (header s).moment ≡ false
  unfolding is_ended
  commits_none_on = ap is_ended m

-- ---- the end of a spawned task

-- after a live spawned task was removed, nobody holds a slot for its coroutine
remove-alone : (v : View) (t : ℕ) (q : List ℕ) → SoundBut 0 Nothing Nothing v → suc t < v.header.next → T (is_live (v.tasks (suc t)).state)
    → Alone (with_task_queue v (suc t) absent q) (v.tasks (suc t)).coroutine.0
unfolding with_task_queue task_in_range
remove-alone v t q h low l g z (by_object y m n e) same =
    nobody_slot (sym (subst (λ (o : ℕ). awaiter_of (v.objects o) ≡ Awaiter.Nobody) (sym same) (no_awaiter _ (spawned_of t h low l).coroutine)) ∙ e)
remove-alone v t q h low l g z (by_task u low-u m e) same = by (ℕ_discrete u (suc t)) u refl m e same
  where
    none-live : (y : Task) → y ≡ absent → T (is_live y.state) → ⊥
    none-live y p a = unfold absent in (subst (λ (x : Task). T (is_live x.state)) p a)

    nobody : (y : Task) → T (task_in_range v.header v.objects 0 y) → (f x : HeapId) → y.awaiter ≡ Awaiter.GatherSlot f x → ⊥
    nobody y a f x p = subst (λ (b : Awaiter). T (is_nobody b)) p (both_left _ _ (both_right (not (is_unstarted y.state)) _ a))

    is_task_of_it : (w : ℕ) → T (is_live (v.tasks (suc w)).state) → (v.tasks (suc w)).coroutine.0 ≡ (v.tasks (suc t)).coroutine.0
        → T (is_task_of_at v.tasks (v.tasks (suc t)).coroutine.0 (suc w))
    is_task_of_it w a c = unfold is_task_of_at in (both _ _ (holds _ (ap not (ne_eqb (suc w) 0 (λ p. omega arith)))) (is_task_of_give _ (v.tasks (suc w)) a c))

    other : (w : ℕ) → w < v.header.next → (w ≡ suc t → ⊥) → T (is_live (v.tasks w).state) → (x : HeapId) → (v.tasks w).awaiter ≡ Awaiter.GatherSlot (heap_id g) x
        → (v.tasks w).coroutine.0 ≡ (v.tasks (suc t)).coroutine.0 → ⊥
    other zero k d a x p c = nobody (v.tasks 0) (h.tasks 0 h.main) (heap_id g) x p
    other (suc w) k d a x p c = d (h.task_of (v.tasks (suc t)).coroutine.0 (suc w) (suc t) k low (is_task_of_it w a c) (is_task_of_it t l refl))

    by : Dec (u ≡ suc t) → (w : ℕ) → w ≡ u → T (is_live (update v.tasks (suc t) absent w).state)
        → (update v.tasks (suc t) absent w).awaiter ≡ Awaiter.GatherSlot (heap_id g) (heap_id (update v.tasks (suc t) absent w).coroutine.0)
        → (update v.tasks (suc t) absent w).coroutine.0 ≡ (v.tasks (suc t)).coroutine.0 → ⊥
    by (yes p) w k a b c = none-live (update v.tasks (suc t) absent w) (ap (update v.tasks (suc t) absent) (k ∙ p) ∙ update_same v.tasks (suc t) absent) a
    by (no d) w k a b c =
        let same_row : update v.tasks (suc t) absent w ≡ v.tasks w = update_other v.tasks (suc t) absent w (λ p. d (sym k ∙ p)) in
        other w (subst (λ (j : ℕ). j < v.header.next) (sym k) low-u) (λ p. d (sym k ∙ p)) (subst (λ (y : Task). T (is_live y.state)) same_row a) _
        (subst (λ (y : Task). y.awaiter ≡ Awaiter.GatherSlot (heap_id g) (heap_id y.coroutine.0)) same_row b)
        (subst (λ (y : Task). y.coroutine.0 ≡ (v.tasks (suc t)).coroutine.0) same_row c)

complete_during : {r : ℕ → Bool} {D : ℕ → Type 0} {hd : Header} (s : Store) (o : ℕ) → o < (header s).made → T (is_coroutine (kind (object s o))) → SoundDuring Nothing r D hd s
    → SoundDuring Nothing r D hd (put_object s o (completed (object s o)))
unfolding view
complete_during {r} {D} {hd} s o l c h =
    let i = coroutine-is (object s o) c in
    let x : Object = Object.Coroutine i.0 CoroutineState.Completed in
    let q : completed (object s o) ≡ x = ap completed i.2 ∙ (unfold completed in refl) in
    subst (λ (y : Object). SoundDuring Nothing r D hd (put_object s o y)) (sym q)
    (object-during s h o x (subst ObjectFits i.2 (object-fits s o)) (coroutine_fits (view s) o i.0 i.1 CoroutineState.Completed l i.2))

-- a flight does not see that a task was removed, if it is not bound for a task
remove_detached : (s : Store) (t o : ℕ) (x : LogEntry) (a : Awaiter) → T (is_slot a) → Detached (view s) o a → Detached (view (add_log (remove_task s t) x)) o a
unfolding view add_log remove_task remove_from_ready_queue put_queue put_task object place header
remove_detached s t o x a k fl =
    record { made = fl.made; free = fl.free; range = fl.range; slot = fl.slot; task = λ u e z. absurd (not-a_task a k (task_id u) e) }

remove-view : {k : ℕ} {P Q : ℕ → Type 0} (s : Store) (t : ℕ) (x : LogEntry) → Kept k P Q s → t < (header s).next
    → view (add_log (remove_task s t) x) ≡ with_task_queue (view s) t absent (entries (remove s.queue t))
unfolding view add_log remove_task remove_from_ready_queue put_queue put_task task object place header
remove-view s t x h low = view_task_queue s h t absent (remove s.queue t) (omega (arith, low, h.but.fits.next_fits)) absent-fits

-- A spawned task completes: its coroutine is completed, it is removed, and its value is on its way.
module _ (s : Store) (t : ℕ) (v : Value) (h : SoundStore s) (m : (header s).moment ≡ Moment.Running (task_id (suc t))) (k : T (value_known (header s).made (object s) v)) where
  abbrev c : ℕ
  c = (task s (suc t)).coroutine.0

  abbrev done : Store
  done = put_object s c (completed (object s c))

  -- the store when the value is sent
  abbrev pub left_by : Store
  left_by = add_log (remove_task done (suc t)) (exited (suc t))

  low : suc t < (header s).next
  low = runner_low s (suc t) h m

  sp : Spawned (view s) (suc t)
  unfolding view
  sp = spawned_of t h.facts.but low (runner-live s (suc t) h m)

  mid1 : SoundDuring Nothing (runs_now (header s).moment) (λ o. T (is_completed (kind (object s o)))) (header s) done
  unfolding view
  mid1 = complete_during s c sp.made sp.coroutine (during_of s h)

  low1 : suc t < (header done).next
  low1 = subst (λ (y : Header). suc t < y.next) (sym mid1.head) low

  mid2 : SoundDuring Nothing idle (λ o. T (is_completed (kind (object s o)))) (header s) left_by
  mid2 = remove_keeps done (suc t) mid1 low1 (exited (suc t)) idle refl (λ u d. others_commits_none s (suc t) h m u d)

  live1 : T (is_live (task done (suc t)).state)
  unfolding task put_object
  live1 = runner-live s (suc t) h m

  pub completion_delivering : DeliveringValue idle (λ o. T (is_completed (kind (object s o)))) (header s) c v left_by (task s (suc t)).awaiter
  unfolding view task put_object
  completion_delivering =
      record {
        known = subst (λ (y : Header). T (value_known y.made (object left_by) v)) (sym mid2.head) (value_stays (header s).made (header s).made (le_refl _) (object s) (object left_by) (λ o l. mid2.done o) v k);
        detached = remove_detached done (suc t) c (exited (suc t)) (task s (suc t)).awaiter sp.slot (task_detached done t mid1 low1 live1);
        alone = subst (λ (u : View). Alone u c) (sym (remove-view done (suc t) (exited (suc t)) mid1.kept low1))
            (remove-alone (view done) t (entries (remove done.queue (suc t))) mid1.kept.but low1 live1);
        during = take_off left_by (task s (suc t)).awaiter mid2;
      }

  -- It reaches its awaiter.
  pub completion_delivery_ends : DeliveryEnds idle (λ o. T (is_completed (kind (object s o)))) (header s) (deliver_awaiter_success left_by (task s (suc t)).awaiter v)
  completion_delivery_ends = success_keeps idle _ (header s) left_by c (task s (suc t)).awaiter v completion_delivering

  -- The event `complete`, of a spawned task.
  pub completion_keeps : SoundStore (handle_task_completion s (suc t) v).store
  unfolding handle_task_completion
  completion_keeps = exit_keeps _ (header s) (commits_none_on s (suc t) h m) activate (activate_keeps _ (header s) (commits_none_on s (suc t) h m)) _ completion_delivery_ends

-- The event `fail`, of a spawned task.
pub fail_keeps : (s : Store) (t : ℕ) (e : Error) → SoundStore s → (header s).moment ≡ Moment.Running (task_id (suc t)) → ErrorFits e
    → SoundStore (handle_task_failure activate s (suc t) e).store
fail_keeps s t e h m k =
    failure_exit (λ o. T (is_completed (kind (object s o)))) (header s) (commits_none_on s (suc t) h m) activate (activate_keeps _ (header s) (commits_none_on s (suc t) h m)) s t e
    (runs_now (header s).moment) k (runner_low s (suc t) h m) (runner-live s (suc t) h m) (others_commits_none s (suc t) h m) (during_of s h)

-- ---- the session's end

-- the queue may as well be written first
remove_queue : (k : ℕ) (s : Store) (t : ℕ) (q : ReadyQueue) → put_queue (remove_from s t k) q ≡ remove_from (put_queue s q) t k
unfolding remove_from put_queue task
remove_queue zero s t q = refl
remove_queue (suc k) s t q = by (is_live (task s t).state) (λ x. remove_queue k x (t + 1) q) ∙ ap (λ (x : Store). remove_from x (t + 1) k) (same (is_live (task s t).state))
  where
    by : (b : Bool) → ((x : Store) → put_queue (remove_from x (t + 1) k) q ≡ remove_from (put_queue x q) (t + 1) k)
        → put_queue (remove_from (pick b (add_log (put_task s t absent) (removed t)) s) (t + 1) k) q
        ≡ remove_from (put_queue (pick b (add_log (put_task s t absent) (removed t)) s) q) (t + 1) k
    by b f = f (pick b (add_log (put_task s t absent) (removed t)) s)

    same : (b : Bool) → put_queue (pick b (add_log (put_task s t absent) (removed t)) s) q ≡ pick b (add_log (put_task (put_queue s q) t absent) (removed t)) (put_queue s q)
    same true = unfold put_queue add_log put_task in refl
    same false = refl

-- r, but for t
abbrev but_for : (ℕ → Bool) → ℕ → ℕ → Bool
but_for r t u = pick (eqb t u) false (r u)

not_live_commits_none : (x : TaskState) → is_live x ≡ false → is_running x ≡ false
not_live_commits_none TaskState.Absent e = refl
not_live_commits_none TaskState.Unstarted e = refl
not_live_commits_none TaskState.Running e = e
not_live_commits_none (TaskState.Woken v) e = refl
not_live_commits_none (TaskState.Raised v) e = refl
not_live_commits_none (TaskState.Blocked o) e = refl

module _ {D : ℕ → Type 0} {hd : Header} where
  -- a task goes, and nothing stands in the queue
  end-one : {r : ℕ → Bool} (s : Store) (t : ℕ) → entries s.queue ≡ [] → t < (header s).next → SoundDuring Nothing r D hd s
      → SoundDuring Nothing (but_for r t) D hd (add_log (put_task s t absent) (removed t))
  unfolding put_queue put_task
  end-one {r} s t e low h =
      add_log-during (put_task s t absent) (task-during s h t absent s.queue low absent-fits h.kept.memory.words_right.queue_short h.kept.memory.ids write now) (removed t)
    where
      none-queued : Queued (header s).next (update (task s) t absent) (entries s.queue)
      none-queued =
          subst (Queued (header s).next (update (task s) t absent)) (sym e) (none-ready (header s).next (update (task s) t absent))

      write : TaskWrite Nothing Nothing Nothing Nothing (view s) t absent (entries s.queue)
      write = unfold absent blocked_on state_values view in (record {
        alive = λ z. absurd z;
        awaiter = λ z. absurd z;
        coroutine = λ z. absurd z;
        range = λ z. absent_in_range (header s) (object s) t;
        known = tt;
        queue = λ z. none-queued;
        awaits = λ d o e. absurd_some e;
        awaited = λ l. absurd l;
        in_commit = λ p n. inl n;
        excepted = λ u d n z. z;
      })

      now : Runs (but_for r t) (with_task_queue (view s) t absent (entries s.queue))
      now u l = unfold with_task_queue view in (update_case (task s) t absent (λ (y : Task). is_running y.state ≡ but_for r t u) u
          (λ q. unfold absent in (rw (eq-eqb t u (sym q)))) (λ d. rw (ne_eqb t u (λ q. d (sym q))) (h.runs u l)))

  end-all : (k : ℕ) (s : Store) (t : ℕ) (r : ℕ → Bool) → t + k ≡ hd.next → entries s.queue ≡ [] → ((u : ℕ) → u < t → r u ≡ false) → SoundDuring Nothing r D hd s
      → SoundDuring Nothing idle D hd (remove_from s t k)
  unfolding remove_from view
  end-all zero s t r e q f h = record { kept = h.kept; runs = λ u l. h.runs u l ∙ f u (omega (arith, l, ap (λ (y : Header). y.next) h.head)); done = h.done; head = h.head }
  end-all (suc k) s t r e q f h = by (is_live (task s t).state) refl (λ x z p g m. end-all k x (t + 1) z (omega arith) p g m)
    where
      low : t < (header s).next
      low = omega (arith, ap (λ (y : Header). y.next) h.head)

      by : (b : Bool) → is_live (task s t).state ≡ b
          → ((x : Store) (z : ℕ → Bool) → entries x.queue ≡ [] → ((u : ℕ) → u < t + 1 → z u ≡ false) → SoundDuring Nothing z D hd x → SoundDuring Nothing idle D hd (remove_from x (t + 1) k))
          → SoundDuring Nothing idle D hd (remove_from (pick b (add_log (put_task s t absent) (removed t)) s) (t + 1) k)
      by true l go = go (add_log (put_task s t absent) (removed t)) (but_for r t) (unfold add_log put_task in q) past (end-one s t q low h)
        where
          past : (u : ℕ) → u < t + 1 → but_for r t u ≡ false
          past u m = at (ℕ_discrete u t)
            where
              at : Dec (u ≡ t) → but_for r t u ≡ false
              at (yes p) = rw (eq-eqb t u (sym p))
              at (no p) = rw (ne_eqb t u (λ z. p (sym z))) (f u (omega arith))
      by false l go = go s r q past h
        where
          past : (u : ℕ) → u < t + 1 → r u ≡ false
          past u m = at (ℕ_discrete u t)
            where
              at : Dec (u ≡ t) → r u ≡ false
              at (yes p) = ap r p ∙ (sym (h.runs t low) ∙ not_live_commits_none (task s t).state l)
              at (no p) = f u (omega arith)

-- The events `complete` and `fail`, of main.
pub end_keeps : (s : Store) → SoundStore s → SoundStore (cleanup s)
unfolding cleanup runs_now runner_in_range
end_keeps s h =
    moment_sound_store {D = D} {hd = hd} (put_queue (remove_from s 0 (header s).next) empty_queue) Moment.Ended tt tt (λ z. absurd (ended z))
    (subst (SoundDuring Nothing idle D hd) (sym (remove_queue (header s).next s 0 empty_queue)) all-gone)
  where
    D : ℕ → Type 0
    D = λ o. T (is_completed (kind (object s o)))

    hd : Header
    hd = header s

    ended : is_ended Moment.Ended ≡ false → ⊥
    ended z = unfold is_ended in (true≢false z)

    emptied : SoundDuring Nothing (runs_now (header s).moment) D hd (put_queue s empty_queue)
    emptied = queue_during s (during_of s h) empty_queue (unfold empty_queue in (omega arith)) (unfold empty_queue in refl)
        (λ z. subst (Queued (header s).next (task s)) (sym entries-empty) (none-ready (header s).next (task s)))

    all-gone : SoundDuring Nothing idle D hd (remove_from (put_queue s empty_queue) 0 (header s).next)
    all-gone = end-all (header s).next (put_queue s empty_queue) 0 (runs_now (header s).moment) (omega arith) (unfold put_queue in entries-empty)
        (λ u l. absurd (not-suc-le-zero {n = 0} (omega arith))) emptied

-- ---- cancel: whoever is removed, the store stays sound

module _ (D : ℕ → Type 0) (hd : Header) where
  -- no task runs, and the tasks of coroutines are below the next number
  record NoneRuns (w : Walk) : Type 0 where
    during : SoundDuring Nothing idle D hd w.store
    low : (o t : ℕ) → w.tasks_of o ≡ some t → t < hd.next

  one_keeps : (s : Store) (t : ℕ) → t < hd.next → SoundDuring Nothing idle D hd s → SoundDuring Nothing idle D hd (cancel_one s t)
  unfolding cancel_one
  one_keeps s t low h = remove_keeps s t h (subst (λ (y : Header). t < y.next) (sym h.head) low) (removed t) idle refl (λ u d. refl)

  reach-none-runs : (w : Walk) (g : ℕ) → NoneRuns w → NoneRuns (reach w g)
  unfolding reach
  reach-none-runs w g h = by (is_some (as_awaited (object w.store g)) && not (get_or w.marks g false))
    where
      by : (b : Bool) → NoneRuns (reach_if w g b)
      by true = unfold reach_if in (record { during = h.during; low = h.low })
      by false = unfold reach_if in h

  blocked-none-runs : (w : Walk) (t : ℕ) (b : Option ℕ) → t < hd.next → NoneRuns w → NoneRuns (remove_blocked w t b)
  unfolding remove_blocked
  blocked-none-runs w t none l h = record { during = one_keeps w.store t l h.during; low = h.low }
  blocked-none-runs w t (some b) l h = reach-none-runs _ b (record { during = one_keeps w.store t l h.during; low = h.low })

  visit-none-runs : (w : Walk) (o : ℕ) → NoneRuns w → NoneRuns (visit w o)
  unfolding visit
  visit-none-runs w o h = by (w.tasks_of o) refl
    where
      by-live : (t : ℕ) → t < hd.next → (b : Bool) → NoneRuns (visit_by w o (pick b (some t) none))
      by-live t l true = unfold visit_by in (blocked-none-runs w t _ l h)
      by-live t l false = unfold visit_by in (reach-none-runs w o h)

      by : (d : Option ℕ) → w.tasks_of o ≡ d → NoneRuns (visit_by w o (still_live w.store.tasks d))
      by none e = unfold still_live visit_by in (reach-none-runs w o h)
      by (some t) e = unfold still_live in (by-live t (h.low o t e) (is_live (task_at w.store.tasks t).state))

  place-none-runs : (w : Walk) (p i m : ℕ) → NoneRuns w → NoneRuns (visit_place w p i m)
  unfolding visit_place
  place-none-runs w p i m h = by (bit m i)
    where
      by : (b : Bool) → NoneRuns (pick b (visit w (place w.store p).item.0) w)
      by true = visit-none-runs w (place w.store p).item.0 h
      by false = h

  open-none-runs : (k : ℕ) (w : Walk) (a : AwaitedGather) (i : ℕ) → NoneRuns w → NoneRuns (visit_open w a i k)
  unfolding visit_open
  open-none-runs zero w a i h = h
  open-none-runs (suc k) w a i h = open-none-runs k (visit_place w (a.first + i) i a.open_places) a (i + 1) (place-none-runs w (a.first + i) i a.open_places h)

  gather-none-runs : (w : Walk) (a : Option AwaitedGather) → NoneRuns w → NoneRuns (walk_gather w a)
  unfolding walk_gather
  gather-none-runs w none h = h
  gather-none-runs w (some a) h = open-none-runs a.count w a 0 h

  walk-none-runs : (k : ℕ) (w : Walk) → NoneRuns w → SoundDuring Nothing idle D hd (walk k w)
  unfolding walk
  walk-none-runs zero w h = h.during
  walk-none-runs (suc k) w h = by w.stack (λ x y. walk-none-runs k x y)
    where
      by : (gs : List ℕ) → ((x : Walk) → NoneRuns x → SoundDuring Nothing idle D hd (walk k x)) → SoundDuring Nothing idle D hd (walk_next (λ x. walk k x) w gs)
      by [] go = unfold walk_next in h.during
      by (g ∷ gs) go = unfold walk_next in (go _ (gather-none-runs _ _ (record { during = h.during; low = h.low })))

  pub cancel-during : (s : Store) (t : ℕ) → t < hd.next → SoundDuring Nothing idle D hd s → SoundDuring Nothing idle D hd (cancel_task s t)
  unfolding cancel_task walk_from task_of task_of_in
  cancel-during s t l h =
      walk-none-runs object_limit (remove_blocked (walk_from s) t (blocked_on (task s t).state)) (blocked-none-runs (walk_from s) t _ l
      (record { during = h; low = λ o u e. omega (arith, first_below _ ((header s).next - 1) 1 u e, ap (λ (y : Header). y.next) h.head, h.kept.but.main) }))

-- in waiting nobody runs
none_runs : (s : Store) → (header s).moment ≡ Moment.Waiting → (u : ℕ) → runs_now (header s).moment u ≡ false
unfolding runs_now
none_runs s m u = ap (λ (y : Moment). runs_now y u) m

-- so at the beginning of an event no task runs
pub only_changes_of : (s : Store) → SoundStore s → (header s).moment ≡ Moment.Waiting → SoundDuring Nothing idle (λ o. T (is_completed (kind (object s o)))) (header s) s
only_changes_of s h m = let k = during_of s h in record { kept = k.kept; runs = λ u l. k.runs u l ∙ none_runs s m u; done = k.done; head = k.head }

-- The event `cancel`.
pub cancel_keeps : (s : Store) (t : ℕ) → SoundStore s → (header s).moment ≡ Moment.Waiting → t < (header s).next → SoundStore (cancel_task s t)
unfolding view runner_in_range
cancel_keeps s t h m l =
    let c = cancel-during (λ o. T (is_completed (kind (object s o)))) (header s) s t l (only_changes_of s h m) in
    sound_store_during (cancel_task s t) h.facts.runner
    (record { kept = c.kept; runs = λ u z. c.runs u z ∙ sym (none_runs s m u); done = c.done; head = c.head })

-- The event `resume`.
pub resume_keeps : (s : Store) → SoundStore s → (header s).moment ≡ Moment.Waiting → SoundStore (resume_with_resolved_futures s).store
unfolding resume_with_resolved_futures switched is_ended
resume_keeps s h m = by (eqb s.queue.len 0)
  where
    on : is_ended (header s).moment ≡ false
    on = ap is_ended m

    by : (b : Bool) → SoundStore (pick b (record { store = s; answer = repeat_wait (pending_call_ids s) }) (switched (resume_next activate s))).store
    by true = h
    by false = next_keeps _ (header s) on activate (activate_keeps _ (header s) on) s (only_changes_of s h m)
