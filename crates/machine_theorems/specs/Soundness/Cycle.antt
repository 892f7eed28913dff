-- The cycle: a task exits, the one that it woke or the next ready one is activated, started, failed.
use Rattle.std.specs.Prelude.{◌≡◌, Bool, true, false, not, List, [], ◌∷◌, ltb, length}
use Rattle.std.proofs.Math.Path.{refl, ap, sym, subst}
use Rattle.std.proofs.Common.{◌∙◌, le_refl, arith, ltb→lt, lt→ltb, eq-eqb, ne_eqb}
use Rattle.std.proofs.Math.Logic.{inl}
use Rattle.std.proofs.Math.Option.{Option, none, some, some-injective}
use Prim.Native.Nat.{ℕ, zero, suc, ◌+◌, ◌≤◌, ◌<◌}
use Rattle.std.proofs.Math.Dec.{T, eqb}
use Rattle.std.proofs.lemmas.Bool.{eqb-false}
use Rattle.asyncio.specs.declared.TaskId.{TaskId}
use Rattle.asyncio.specs.declared.Error.{Error}
use Rattle.asyncio.specs.declared.Task.{Task}
use Rattle.asyncio.specs.declared.TaskState.{TaskState}
use Rattle.asyncio.specs.declared.Awaiter.{Awaiter}
use Rattle.asyncio.specs.declared.CoroutineState.{CoroutineState}
use Rattle.asyncio.specs.declared.ExternalFutureState.{ExternalFutureState}
use Rattle.asyncio.specs.declared.GatherState.{GatherState}
use Rattle.asyncio.specs.declared.Object.{Object}
use Rattle.asyncio.specs.declared.Header.{Header}
use Rattle.asyncio.specs.declared.Moment.{Moment}
use Rattle.asyncio.specs.Limits.{task_limit}
use Rattle.asyncio.specs.Ranges.{TaskFits, ObjectFits, ErrorFits}
use Rattle.asyncio.specs.Numbers.{task_id}
use Rattle.asyncio.specs.States.{pick, is_live, is_unstarted, is_running, is_ready}
use Rattle.asyncio.specs.Kinds.{kind, is_coroutine, is_completed, is_committed}
use Rattle.asyncio.specs.Parts.{awaiter_of, count_of}
use Rattle.queue.specs.declared.ReadyQueue.{ReadyQueue}
use Rattle.queue.specs.Queue.{entries, front_of, pop_front, remove, occurrences, without}
use Rattle.queue.proofs.QueueLaws.{length-entries, front_entry, entries_pop, entries-remove, pop_front-len, pop_front-length, remove-len, remove-length}
use Rattle.queue.proofs.QueueLaws.{distinct_without}
use Rattle.machine.specs.Tests.{implies}
use Rattle.machine.specs.Store.{Store, View, view, task, object, header, put_task, put_object, put_queue, add_log, set_state, restate, absent, LogEntry, exited}
use Rattle.machine.specs.Scheduler.{as_awaited, as_pending, blocked_on, remove_from_ready_queue, remove_task, live_count}
use Rattle.machine.specs.Delivery.{Delivery, deliver_awaiter_failure}
use Rattle.machine.specs.Events.{Switched, How, start, value, raises, run, yield, new_function, resume_next, resume_after_task_exit, handle_task_failure, start_by, start_task, activate_state, activate_within, activate}
use Rattle.machine.specs.Sound.{awaiter_in_range, object_in_range, is_slot, task_in_range, committed_places, items_below, object_values, state_values, is_ended, object_filled, runs_now, runner_in_range}
use Rattle.machine_laws.specs.Facts.{SoundBut, Nothing}
use Rattle.machine_laws.specs.TestLaws.{both, both_left, both_right, implies_use}
use Rattle.machine_laws.specs.StoreLaws.{update_case, task-fits, object-fits, header_put-object}
use Rattle.machine_laws.specs.DeliveryLaws.{absurd_some}
use Rattle.machine_laws.specs.MakingLaws.{nobody-task, nobody_slot}
use Rattle.machine_theorems.specs.Soundness.ReadyTasks.{Queued, to_queued, queued-same, queued_less, queued-remove, gone, was_there, head_gone}
use Rattle.machine_theorems.specs.Soundness.PutObject.{Fits}
use Rattle.machine_theorems.specs.Soundness.PutTask.{with_task_queue, TaskWrite}
use Rattle.machine_theorems.specs.Soundness.Stores.{Runs, idle, SoundDuring, SoundStore, object-during, task-during, queue_during, add_log-during, moment_sound_store}
use Rattle.machine_theorems.specs.Soundness.Deliver.{DeliveryEnds, Detached, take_off, restated_in_range, restated_fits, DeliveringError, failure_keeps}

-- ---- a live spawned task

-- what its row says
pub record Spawned (v : View) (t : ℕ) : Type 0 where
  pub slot : T (is_slot (v.tasks t).awaiter)
  pub range : T (awaiter_in_range v.header (v.tasks t).awaiter)
  pub made : (v.tasks t).coroutine.0 < v.header.made
  pub coroutine : T (is_coroutine (kind (v.objects (v.tasks t).coroutine.0)))

pub spawned_of : {k : ℕ} {P Q : ℕ → Type 0} {v : View} (t : ℕ) → SoundBut k P Q v → suc t < v.header.next → T (is_live (v.tasks (suc t)).state) → Spawned v (suc t)
unfolding task_in_range
spawned_of {v = v} t h low l =
    let y : Task = v.tasks (suc t) in
    let z = implies_use (is_live y.state) _ l (h.tasks (suc t) low) in
    let z2 = both_right (is_slot y.awaiter) _ z in
    let z3 = both_right (awaiter_in_range v.header y.awaiter) _ z2 in
    record {
      slot = both_left _ _ z;
      range = both_left _ _ z2;
      made = ltb→lt y.coroutine.0 v.header.made (both_left _ _ z3);
      coroutine = both_right (ltb y.coroutine.0 v.header.made) _ z3;
    }

pub not-a_task : (a : Awaiter) → T (is_slot a) → (t : TaskId) → a ≡ Awaiter.Task t → ⊥
unfolding is_slot
not-a_task a h t e = subst (λ (b : Awaiter). T (is_slot b)) e h

-- a coroutine, by its kind
pub coroutine-is : (x : Object) → T (is_coroutine (kind x)) → (f : ℕ) × (y : CoroutineState) × (x ≡ Object.Coroutine f y)
unfolding kind
coroutine-is Object.Unmade h = absurd h
coroutine-is (Object.Coroutine f y) h = (f, y, refl)
coroutine-is (Object.ExternalFuture c (ExternalFutureState.Pending a r)) h = absurd h
coroutine-is (Object.ExternalFuture c (ExternalFutureState.Resolved v)) h = absurd h
coroutine-is (Object.ExternalFuture c (ExternalFutureState.Failed e)) h = absurd h
coroutine-is (Object.GatherFuture f n GatherState.Pending) h = absurd h
coroutine-is (Object.GatherFuture f n (GatherState.Awaited a m)) h = absurd h
coroutine-is (Object.GatherFuture f n GatherState.Completed) h = absurd h
coroutine-is (Object.GatherFuture f n (GatherState.Failed e)) h = absurd h

pub no_awaiter : (x : Object) → T (is_coroutine (kind x)) → awaiter_of x ≡ Awaiter.Nobody
unfolding awaiter_of
no_awaiter x h = let i = coroutine-is x h in ap awaiter_of i.2

-- its awaiter, on its way
pub task_detached : {r : ℕ → Bool} {D : ℕ → Type 0} {hd : Header} (s : Store) (t : ℕ) → SoundDuring Nothing r D hd s → suc t < (header s).next → T (is_live (task s (suc t)).state)
    → Detached (view s) (task s (suc t)).coroutine.0 (task s (suc t)).awaiter
unfolding view
task_detached s t h low l =
    let sp : Spawned (view s) (suc t) = spawned_of t h.kept.but low l in
    record {
      made = sp.made;
      free = no_awaiter _ sp.coroutine;
      range = sp.range;
      slot = λ g x e. h.kept.but.task_slots (suc t) low l g x e;
      task = λ u e z. absurd (not-a_task (task s (suc t)).awaiter sp.slot (task_id u) e);
    }

-- and an error for it
pub task_delivering : {r : ℕ → Bool} {D : ℕ → Type 0} {hd : Header} (s : Store) (t : ℕ) → SoundDuring Nothing r D hd s → suc t < hd.next → T (is_live (task s (suc t)).state)
    → DeliveringError r D hd (task s (suc t)).coroutine.0 s (task s (suc t)).awaiter
task_delivering s t h low l =
    record { detached = task_detached s t h (subst (λ (y : Header). suc t < y.next) (sym h.head) low) l; during = take_off s (task s (suc t)).awaiter h }

-- ---- a coroutine's state is written

pub coroutine_fits : (v : View) (o f : ℕ) (x y : CoroutineState) → o < v.header.made → v.objects o ≡ Object.Coroutine f x
    → Fits 0 0 Nothing Nothing Nothing Nothing v o (Object.Coroutine f y)
unfolding count_of items_below object_filled as_awaited as_pending object_in_range object_values awaiter_of
coroutine_fits v o f x y l q =
    record {
      made = l;
      count = sym (ap count_of q);
      room = subst (λ (z : Object). committed_places z + 0 ≤ committed_places (Object.Coroutine f y) + 0) (sym q) (same x y);
      coroutine = λ t. is_one y;
      completed = λ t. absurd (not-completed x (subst (λ (y : Object). T (is_completed (kind y))) q t));
      committed = λ t. absurd (not-committed x (subst (λ (y : Object). T (is_committed (kind y))) q t));
      range = λ p t. tt;
      awaiter = λ t. unfold awaiter_in_range in tt;
      lower = λ t. tt;
      known = λ t. tt;
      call = λ a e. absurd_some e;
      awaits = λ t z d b e. absurd (nobody-task (sym (ap awaiter_of q) ∙ e));
      awaited = λ n t e. absurd (nobody-task e);
      filled = λ n. tt;
      slot = λ n g z e. absurd (nobody_slot e);
      opens = λ w e. absurd_some e;
      excepted = λ t b z d e. inl (λ z. z);
      in_commit = λ p d n z. z;
    }
  where
    is_one : (c : CoroutineState) → T (is_coroutine (kind (Object.Coroutine f c)))
    is_one CoroutineState.New = unfold kind in tt
    is_one CoroutineState.Running = unfold kind in tt
    is_one CoroutineState.Completed = unfold kind in tt

    not-completed : (c : CoroutineState) → T (is_completed (kind (Object.Coroutine f c))) → ⊥
    not-completed CoroutineState.New = unfold kind in (λ z. z)
    not-completed CoroutineState.Running = unfold kind in (λ z. z)
    not-completed CoroutineState.Completed = unfold kind in (λ z. z)

    not-committed : (c : CoroutineState) → T (is_committed (kind (Object.Coroutine f c))) → ⊥
    not-committed CoroutineState.New = unfold kind in (λ z. z)
    not-committed CoroutineState.Running = unfold kind in (λ z. z)
    not-committed CoroutineState.Completed = unfold kind in (λ z. z)

    no-places : (c : CoroutineState) → committed_places (Object.Coroutine f c) ≡ 0
    no-places CoroutineState.New = unfold committed_places kind in refl
    no-places CoroutineState.Running = unfold committed_places kind in refl
    no-places CoroutineState.Completed = unfold committed_places kind in refl

    same : (c d : CoroutineState) → committed_places (Object.Coroutine f c) + 0 ≤ committed_places (Object.Coroutine f d) + 0
    same c d = omega (arith, no-places c, no-places d)

-- ---- a task is removed

pub absent_in_range : (h : Header) (os : ℕ → Object) (t : ℕ) → T (task_in_range h os t absent)
unfolding task_in_range absent implies
absent_in_range h os zero = both _ _ tt (both _ _ tt tt)
absent_in_range h os (suc t) = tt

pub absent-fits : TaskFits absent
unfolding absent
absent-fits = record { state_fits = tt; awaiter_fits = tt; coroutine_fits = omega arith }

module _ {r : ℕ → Bool} {D : ℕ → Type 0} {hd : Header} (s : Store) (t : ℕ) (h : SoundDuring Nothing r D hd s) (low : t < (header s).next) where
  remove-fits : TaskWrite Nothing Nothing Nothing Nothing (view s) t absent (entries (remove s.queue t))
  unfolding absent blocked_on state_values view
  remove-fits =
      record {
        alive = λ z. absurd z;
        awaiter = λ z. absurd z;
        coroutine = λ z. absurd z;
        range = λ z. absent_in_range (header s) (object s) t;
        known = tt;
        queue = λ z. queued-remove s.queue h.kept.memory.ids t absent h.kept.memory.words_right.queue_short z;
        awaits = λ d o e. absurd_some e;
        awaited = λ l. absurd l;
        in_commit = λ p n. inl n;
        excepted = λ u d n z. z;
      }

  -- task t goes; who runs then is z
  pub remove_keeps : (x : LogEntry) (z : ℕ → Bool) → z t ≡ false → ((u : ℕ) → (u ≡ t → ⊥) → r u ≡ z u) → SoundDuring Nothing z D hd (add_log (remove_task s t) x)
  unfolding remove_task remove_from_ready_queue put_task
  remove_keeps x z zt rz =
      add_log-during (put_queue (put_task s t absent) (remove s.queue t))
      (task-during s h t absent (remove s.queue t) low absent-fits (remove-len s.queue t h.kept.memory.words_right.queue_short) (remove-length s.queue t ∙ h.kept.memory.ids)
      remove-fits now) x
    where
      now : Runs z (with_task_queue (view s) t absent (entries (remove s.queue t)))
      now u l = unfold with_task_queue view in (update_case (task s) t absent (λ (y : Task). is_running y.state ≡ z u) u
          (λ q. unfold absent in (sym zt ∙ ap z (sym q))) (λ d. h.runs u l ∙ rz u d))

-- ---- a ready task runs

module _ {D : ℕ → Type 0} {hd : Header} (s : Store) (t : ℕ) (h : SoundDuring Nothing idle D hd s) (low : t < (header s).next) (live : T (is_live (task s t).state))
    (free : blocked_on (task s t).state ≡ none) (off : occurrences (entries s.queue) t ≡ 0) where
  abbrev running : Task
  running = restate (task s t) TaskState.Running

  run_fits : TaskWrite Nothing Nothing Nothing Nothing (view s) t running (entries s.queue)
  unfolding state_values blocked_on view restate
  run_fits =
      record {
        alive = λ z. live;
        awaiter = λ z. refl;
        coroutine = λ z. refl;
        range = λ z. restated_in_range (header s) (object s) t (task s t) TaskState.Running live refl z;
        known = tt;
        queue = λ z. queued-same t running z (header s).next (le_refl _) off;
        awaits = λ d o e. absurd_some e;
        awaited = λ l o z n e. absurd_some (sym free ∙ h.kept.but.awaited o z n t e live);
        in_commit = λ p n. inl n;
        excepted = λ u d n z. z;
      }

  run-runs : Runs (runs_now (Moment.Running (task_id t))) (with_task_queue (view s) t running (entries s.queue))
  unfolding with_task_queue runs_now view restate
  run-runs u l = update_case (task s) t running (λ (y : Task). is_running y.state ≡ eqb t u) u (λ q. sym (eq-eqb t u (sym q))) (λ d. h.runs u l ∙ sym (ne_eqb t u (λ q. d (sym q))))

  low-hd : t < hd.next
  low-hd = subst (λ (y : Header). t < y.next) h.head low

  pub run_keeps : is_ended hd.moment ≡ false → (how : How) → SoundStore (run s t how).store
  unfolding run set_state put_task put_queue view runner_in_range
  run_keeps on how =
      moment_sound_store {D = D} {hd = hd} (set_state s t TaskState.Running) (Moment.Running (task_id t)) (omega (arith, low, h.kept.but.fits.next_fits))
      (lt→ltb t hd.next low-hd) (λ z. on)
      (task-during s h t running s.queue low (restated_fits (task s t) TaskState.Running (task-fits s t) tt) h.kept.memory.words_right.queue_short h.kept.memory.ids run_fits run-runs)

-- ---- the cycle

-- What a switch does, for two ways to activate a task and a relation of what they give: it holds where the host gets control, and where a task that
-- is ready, or was woken, and does not stand in the queue any more, is activated.
module _ (D : ℕ → Type 0) (hd : Header) (R : Switched → Switched → Type 0) (act other : Store → ℕ → Switched) where
  queue_of : (s : Store) → SoundDuring Nothing idle D hd s → Queued (header s).next (task s) (entries s.queue)
  unfolding view
  queue_of s h = to_queued (header s).next (task s) (entries s.queue) h.kept.but.entries

  -- the next ready task
  pub next-by : (s : Store) → SoundDuring Nothing idle D hd s → R (yield s) (yield s)
      → ((q : ReadyQueue) (u : ℕ) → u < hd.next → occurrences (entries q) u ≡ 0 → T (is_ready (task s u).state) → SoundDuring Nothing idle D hd (put_queue s q)
      → R (act (put_queue s q) u) (other (put_queue s q) u))
      → R (resume_next act s) (resume_next other s)
  unfolding resume_next view
  next-by s h y go = by (eqb s.queue.len 0) refl
    where
      q : ReadyQueue
      q = s.queue

      len : q.len ≤ task_limit
      len = h.kept.memory.words_right.queue_short

      Next : ℕ → Type 0
      Next u = R (act (put_queue s (pop_front q)) u) (other (put_queue s (pop_front q)) u)

      popped : (u : ℕ) (us : List ℕ) → entries q ≡ u ∷ us → Next (front_of q).0
      popped u us e =
          let first = head_gone (subst (Queued (header s).next (task s)) e (queue_of s h)) in
          let rest : entries (pop_front q) ≡ us = entries_pop q u us h.kept.memory.ids len e in
          let low : u < hd.next = subst (λ (y : Header). u < y.next) h.head first.0.0 in
          let front : front_of q ≡ task_id u = front_entry q u us e (omega (arith, first.0.0, h.kept.but.fits.next_fits)) in
          subst (λ (y : TaskId). Next y.0) (sym front)
          (go (pop_front q) u low (rw rest first.1) first.0.1
          (queue_during s h (pop_front q) (pop_front-len q len) (pop_front-length q ∙ h.kept.memory.ids)
          (λ z. subst (Queued (header s).next (task s)) (sym rest) first.2)))

      at_least_one : (us : List ℕ) → entries q ≡ us → (q.len ≡ 0 → ⊥) → Next (front_of q).0
      at_least_one [] e ne = absurd (ne (sym (length-entries q h.kept.memory.ids len) ∙ ap length e))
      at_least_one (u ∷ us) e ne = popped u us e

      by : (b : Bool) → eqb s.queue.len 0 ≡ b
          → R (pick b (yield s) (act (put_queue s (pop_front s.queue)) (front_of s.queue).0)) (pick b (yield s) (other (put_queue s (pop_front s.queue)) (front_of s.queue).0))
      by true e = y
      by false e = at_least_one (entries q) refl (eqb-false s.queue.len 0 e)

  -- after an exit: the task that it woke, or the next one
  pub exit_by : (d : Delivery) → DeliveryEnds idle D hd d → R (yield d.store) (yield d.store)
      → ((q : ReadyQueue) (u : ℕ) → u < hd.next → occurrences (entries q) u ≡ 0 → T (is_ready (task d.store u).state) → SoundDuring Nothing idle D hd (put_queue d.store q)
      → R (act (put_queue d.store q) u) (other (put_queue d.store q) u))
      → ((q : ReadyQueue) (u : ℕ) → d.woken ≡ some u → u < hd.next → occurrences (entries q) u ≡ 0 → SoundDuring Nothing idle D hd (put_queue d.store q)
      → R (act (put_queue d.store q) u) (other (put_queue d.store q) u))
      → R (resume_after_task_exit act d) (resume_after_task_exit other d)
  unfolding resume_after_task_exit remove_from_ready_queue
  exit_by d h y next woke = by d.woken refl
    where
      s : Store
      s = d.store

      len : s.queue.len ≤ task_limit
      len = h.during.kept.memory.words_right.queue_short

      by : (w : Option ℕ) → d.woken ≡ w
          → R (elim w [ none ↦ resume_next act d.store | some t ↦ act (remove_from_ready_queue d.store t) t ])
          (elim w [ none ↦ resume_next other d.store | some t ↦ other (remove_from_ready_queue d.store t) t ])
      by none e = next-by s h.during y next
      by (some t) e =
          let gone-from : entries (remove s.queue t) ≡ without (entries s.queue) t = entries-remove s.queue t h.during.kept.memory.ids len in
          let was : Queued (header s).next (task s) (entries s.queue) = queue_of s h.during in
          woke (remove s.queue t) t e (h.woken t e)
          (rw gone-from (gone (entries s.queue) t was.distinct))
          (queue_during s h.during (remove s.queue t) (remove-len s.queue t len) (remove-length s.queue t ∙ h.during.kept.memory.ids)
          (λ z. subst (Queued (header s).next (task s)) (sym gone-from)
          (queued_less (was_there (entries s.queue) t) (distinct_without (entries s.queue) t z.distinct) z)))

-- the store of a switch is sound
abbrev pub Good : Switched → Type 0
Good x = SoundStore x.store

module _ (D : ℕ → Type 0) (hd : Header) (on : is_ended hd.moment ≡ false) where
  pub yield_keeps : (s : Store) → SoundDuring Nothing idle D hd s → SoundStore (yield s).store
  unfolding yield runs_now runner_in_range
  yield_keeps s h =
      moment_sound_store {D = D} {hd = hd} s Moment.Waiting tt tt (λ z. on) (record { kept = h.kept; runs = h.runs; done = h.done; head = h.head })

  -- a task below the next number that does not stand in the queue is activated
  pub Activates : (Store → ℕ → Switched) → Type 0
  Activates act = (s : Store) (t : ℕ) → t < hd.next → occurrences (entries s.queue) t ≡ 0 → SoundDuring Nothing idle D hd s → SoundStore (act s t).store

  module _ (act : Store → ℕ → Switched) (go : Activates act) where
    pub next_keeps : (s : Store) → SoundDuring Nothing idle D hd s → SoundStore (resume_next act s).store
    unfolding Activates put_queue
    next_keeps s h = next-by D hd (λ x y. Good x) act act s h (yield_keeps s h) (λ q u low off r m. go (put_queue s q) u low off m)

    pub exit_keeps : (d : Delivery) → DeliveryEnds idle D hd d → SoundStore (resume_after_task_exit act d).store
    unfolding Activates put_queue
    exit_keeps d h =
        exit_by D hd (λ x y. Good x) act act d h (yield_keeps d.store h.during) (λ q u low off r m. go (put_queue d.store q) u low off m)
        (λ q u e low off m. go (put_queue d.store q) u low off m)

    -- a live spawned task fails: no other task runs
    pub failure_exit : (s : Store) (t : ℕ) (e : Error) (r : ℕ → Bool) → ErrorFits e → suc t < hd.next → T (is_live (task s (suc t)).state)
        → ((u : ℕ) → (u ≡ suc t → ⊥) → r u ≡ false) → SoundDuring Nothing r D hd s → SoundStore (handle_task_failure act s (suc t) e).store
    unfolding handle_task_failure
    failure_exit s t e r k low l other h =
        let sent : DeliveryEnds r D hd (deliver_awaiter_failure s (task s (suc t)).awaiter e) =
        failure_keeps r D hd e k s (task s (suc t)).coroutine.0 (task s (suc t)).awaiter (task_delivering s t h low l) in
        exit_keeps _ (record {
          during = remove_keeps (deliver_awaiter_failure s (task s (suc t)).awaiter e).store (suc t) sent.during
              (subst (λ (y : Header). suc t < y.next) (sym sent.during.head) low) (exited (suc t)) idle refl other;
          woken = sent.woken;
        })

    new_is : (x : Object) (f : ℕ) → new_function x ≡ some f → x ≡ Object.Coroutine f CoroutineState.New
    unfolding new_function
    new_is Object.Unmade f e = absurd_some e
    new_is (Object.Coroutine c CoroutineState.New) f e = ap (λ (m : ℕ). Object.Coroutine m CoroutineState.New) (some-injective c f e)
    new_is (Object.Coroutine c CoroutineState.Running) f e = absurd_some e
    new_is (Object.Coroutine c CoroutineState.Completed) f e = absurd_some e
    new_is (Object.ExternalFuture c y) f e = absurd_some e
    new_is (Object.GatherFuture c n y) f e = absurd_some e

    start-keeps : (s : Store) (t : ℕ) → suc t < hd.next → (task s (suc t)).state ≡ TaskState.Unstarted → occurrences (entries s.queue) (suc t) ≡ 0
        → SoundDuring Nothing idle D hd s → SoundStore (start_task act s (suc t)).store
    unfolding start_task start_by view task put_object
    start-keeps s t low fr off h = by (new_function (object s (task s (suc t)).coroutine.0)) refl
      where
        live : T (is_live (task s (suc t)).state)
        live = rw fr tt

        free : blocked_on (task s (suc t)).state ≡ none
        free = ap blocked_on fr ∙ (unfold blocked_on in refl)

        low-s : suc t < (header s).next
        low-s = subst (λ (y : Header). suc t < y.next) (sym h.head) low

        c : ℕ
        c = (task s (suc t)).coroutine.0

        by : (n : Option ℕ) → new_function (object s c) ≡ n → SoundStore (start_by act s (suc t) c n).store
        by none q = failure_exit s t Error.CoroutineReuse idle tt low live (λ u d. refl) h
        by (some f) q =
            let x : Object = Object.Coroutine f CoroutineState.Running in
            let sp : Spawned (view s) (suc t) = spawned_of t h.kept.but low-s live in
            let is_new : object s c ≡ Object.Coroutine f CoroutineState.New = new_is (object s c) f q in
            let ft : Fits 0 0 Nothing Nothing Nothing Nothing (view s) c x = coroutine_fits (view s) c f CoroutineState.New CoroutineState.Running sp.made is_new in
            let m : SoundDuring Nothing idle D hd (put_object s c x) = object-during s h c x (subst ObjectFits is_new (object-fits s c)) ft in
            run_keeps (put_object s c x) (suc t) m (subst (λ (y : Header). suc t < y.next) (sym (header_put-object s c x)) low-s) live free off on (start c f)

    -- main is never unstarted
    main-old : (s : Store) → SoundDuring Nothing idle D hd s → (task s 0).state ≡ TaskState.Unstarted → ⊥
    unfolding task_in_range view
    main-old s h e = subst (λ (y : TaskState). T (not (is_unstarted y))) e (both_left _ _ (h.kept.but.tasks 0 h.kept.but.main))

    state-keeps : (s : Store) (t : ℕ) (x : TaskState) → t < hd.next → (task s t).state ≡ x → occurrences (entries s.queue) t ≡ 0 → SoundDuring Nothing idle D hd s
        → SoundStore (activate_state act s t x).store
    unfolding activate_state blocked_on
    state-keeps s t TaskState.Absent low e off h = yield_keeps s h
    state-keeps s zero TaskState.Unstarted low e off h = absurd (main-old s h e)
    state-keeps s (suc t) TaskState.Unstarted low e off h = start-keeps s t low e off h
    state-keeps s t TaskState.Running low e off h = yield_keeps s h
    state-keeps s t (TaskState.Woken v) low e off h =
        run_keeps s t h (subst (λ (y : Header). t < y.next) (sym h.head) low) (rw e tt) (ap blocked_on e) off on (value v)
    state-keeps s t (TaskState.Raised x) low e off h =
        run_keeps s t h (subst (λ (y : Header). t < y.next) (sym h.head) low) (rw e tt) (ap blocked_on e) off on (raises x)
    state-keeps s t (TaskState.Blocked o) low e off h = yield_keeps s h

  within-keeps : (k : ℕ) → Activates (activate_within k)
  unfolding activate_within Activates
  within-keeps zero s t low off h = yield_keeps s h
  within-keeps (suc k) s t low off h = state-keeps (λ x u. activate_within k x u) (within-keeps k) s t (task s t).state low refl off h

  pub activate_keeps : Activates activate
  unfolding activate Activates
  activate_keeps s t low off h = within-keeps (live_count s) s t low off h
