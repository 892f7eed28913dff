-- A task's end (document 02, No. 8): the task that ends stood nowhere in the ready queue; the waiter that it woke was put at the back, and is taken out there to
-- run ahead of the queue, which then has the entries that it had before the event.
use Rattle.std.specs.Prelude.{◌≡◌, true, false, ℕ, ◌≤◌, ◌<◌, length, None, Some}
use Rattle.std.proofs.Math.Path.{refl, ap, subst}
use Rattle.std.proofs.Common.{sym, ◌∙◌, true≢false, arith, eq-eqb, ne_eqb}
use mathlib.Core.List.{List}
use Rattle.std.proofs.Math.Option.{Option, none, some, some-injective}
use Rattle.std.proofs.Math.Decide.{ℕ_discrete}
use Rattle.asyncio.specs.declared.Value.{Value}
use Rattle.asyncio.specs.declared.Error.{Error}
use Rattle.asyncio.specs.declared.TaskState.{TaskState}
use Rattle.asyncio.specs.declared.Task.{Task}
use Rattle.asyncio.specs.declared.Moment.{Moment}
use Rattle.asyncio.specs.Limits.{task_limit}
use Rattle.asyncio.specs.Numbers.{task_id}
use Rattle.asyncio.specs.States.{is_ready, is_blocked, is_running, is_unstarted}
use Rattle.rows.specs.Tables.{task_at}
use Rattle.queue.specs.declared.ReadyQueue.{ReadyQueue}
use Rattle.queue.specs.Queue.{entries, occurrences, push_back, remove, stood_at}
use Rattle.queue.proofs.QueueLaws.{push_back-len, push_back-length, occurrences_push}
use Rattle.queue.proofs.RemovalLaws.{removed-none, absent_nowhere, pushed_last, pushed_removed}
use Rattle.machine.specs.Store.{Store, task, object, header, put_task, put_object, put_queue, put_header, add_log, restate, set_state, set_moment, absent, exited, view}
use Rattle.machine.specs.Scheduler.{remove_from_ready_queue, remove_task}
use Rattle.machine.specs.Delivery.{Delivery, deliver_awaiter_success, deliver_awaiter_failure}
use Rattle.machine.specs.Sound.{runs_now}
use Rattle.machine.specs.Events.{Switched, completed, run, activate_state, activate, resume_after_task_exit, handle_task_completion, handle_task_failure}
use Rattle.machine_laws.specs.Views.{Sized}
use Rattle.machine_laws.specs.StoreLaws.{header-fits, task-fits, task_put-other, sized-put_task, sized-put_object, sized-put_queue, sized-add_log}
use Rattle.machine_laws.specs.CycleLaws.{activate_once}
use Rattle.machine_laws.specs.SizedLaws.{sized_closed}
use Rattle.machine_laws.specs.Walk.{success_kept, failure_kept}
use Rattle.machine_laws.specs.DeliveryLaws.{absurd_some}
use Rattle.machine_theorems.specs.Soundness.RowFacts.{ready-live}
use Rattle.machine_theorems.specs.Soundness.ReadyTasks.{Queued, not-queued}
use Rattle.machine_theorems.specs.Soundness.Stores.{SoundStore}
use Rattle.machine_sessions.specs.Queue.Tracked.{blocked-put_task}
use Rattle.machine_sessions.specs.Places.Told.{unstarted_back}
use Rattle.machine_sessions.specs.Stall.Room.{room_for}
use Rattle.machine_sessions.specs.Stall.Standing.{blocked_unready, ready-put_task}
use Rattle.machine_sessions.specs.Stall.Effects.{Effect, nobody, wakes, success_effect, failure_effect}
use Rattle.machine_sessions.specs.Removals.Left.{sound_queue}

-- ---- the claim

-- what handle_task_completion leaves before the next task is resumed: the task has gone, then its awaiter has its value
unfoldable pub completion_left : Store → ℕ → Value → Delivery
completion_left s t v =
    deliver_awaiter_success (add_log (remove_task (put_object s (task s t).coroutine.0 (completed (object s (task s t).coroutine.0))) t) (exited t)) (task s t).awaiter v

-- handle_task_failure: its awaiter has the error, then the task has gone
unfoldable pub failure_left : Store → ℕ → Error → Delivery
failure_left s t e =
    let d : Delivery = deliver_awaiter_failure s (task s t).awaiter e in
    record { store = add_log (remove_task d.store t) (exited t); woken = d.woken }

-- The end of task t in s leaves d. The task stood nowhere in the queue; the waiter that it woke, if any, stands at the back, and when it runs the queue has the
-- entries that it had; where none was woken the queue is as it was, before the next task is taken from it.
pub record ExitLeaves (s : Store) (t : ℕ) (d : Delivery) : Type 0 where
  pub nowhere : stood_at s.queue t ≡ None
  pub at_back : (w : ℕ) → d.woken ≡ some w → stood_at d.store.queue w ≡ Some s.queue.len
  pub runs_ahead : (w : ℕ) → d.woken ≡ some w → entries (resume_after_task_exit activate d).store.queue ≡ entries s.queue
  pub unwoken : d.woken ≡ none → d.store.queue ≡ s.queue

-- these are what the machine goes on with
pub completion_goes_on : (s : Store) (t : ℕ) (v : Value) → handle_task_completion s t v ≡ resume_after_task_exit activate (completion_left s t v)
unfolding handle_task_completion completion_left
completion_goes_on s t v = refl

pub failure_goes_on : (s : Store) (t : ℕ) (e : Error) → handle_task_failure activate s t e ≡ resume_after_task_exit activate (failure_left s t e)
unfolding handle_task_failure failure_left
failure_goes_on s t e = refl

-- ---- the waiter runs

-- a task that has begun runs on, and leaves the queue
runs_on : (u : Store) (w : ℕ) → Sized u → w < task_limit → is_ready (task u w).state ≡ true → is_unstarted (task u w).state ≡ false → (activate u w).store.queue ≡ u.queue
runs_on u w z l r n = ap (λ (x : Switched). x.store.queue) (activate_once u w z l (ready-live (task u w).state r)) ∙ by (task u w).state r n
  where
    by : (x : TaskState) → is_ready x ≡ true → is_unstarted x ≡ false → (activate_state activate u w x).store.queue ≡ u.queue
    by TaskState.Absent a b = absurd (true≢false (sym a))
    by TaskState.Unstarted a b = absurd (true≢false b)
    by TaskState.Running a b = absurd (true≢false (sym a))
    by (TaskState.Woken v) a b = unfold activate_state run set_moment put_header set_state put_task in refl
    by (TaskState.Raised e) a b = unfold activate_state run set_moment put_header set_state put_task in refl
    by (TaskState.Blocked o) a b = absurd (true≢false (sym a))

exit_resumes : (d : Delivery) (w : ℕ) → d.woken ≡ some w → resume_after_task_exit activate d ≡ activate (remove_from_ready_queue d.store w) w
unfolding resume_after_task_exit
exit_resumes d w e = rw e

-- u has the row of w as it was put into y
waiter_runs : (d : Delivery) (y : Store) (w : ℕ) (x : TaskState) → d.woken ≡ some w → Sized d.store → Sized y → w < task_limit → is_ready x ≡ true → is_unstarted x ≡ false
    → task d.store w ≡ task (put_task y w (restate (task y w) x)) w → (resume_after_task_exit activate d).store.queue ≡ remove d.store.queue w
waiter_runs d y w x e z zy l r n row =
    ap (λ (k : Switched). k.store.queue) (exit_resumes d w e)
    ∙ runs_on (remove_from_ready_queue d.store w) w (unfold remove_from_ready_queue in (sized-put_queue _ _ z)) l
    (ap (λ (k : Task). is_ready k.state) rows ∙ (ready-put_task y w (restate (task y w) x) zy l ∙ (unfold restate in r)))
    (ap (λ (k : Task). is_unstarted k.state) rows ∙ (unstarted_back y w (restate (task y w) x) zy l ∙ (unfold restate in n)))
    ∙ queue-is
  where
    rows : task (remove_from_ready_queue d.store w) w ≡ task (put_task y w (restate (task y w) x)) w
    rows =
        let same : task (remove_from_ready_queue d.store w) w ≡ task d.store w = unfold remove_from_ready_queue put_queue task in refl in
        same ∙ row

    queue-is : (remove_from_ready_queue d.store w).queue ≡ remove d.store.queue w
    queue-is = unfold remove_from_ready_queue put_queue in refl

-- ---- the queue

-- nobody of the queue is blocked, and t does not stand there
record Runs (s : Store) (t : ℕ) : Type 0 where
  ids : length s.queue.ids ≡ task_limit
  len : s.queue.len ≤ task_limit
  apart : occurrences (entries s.queue) t ≡ 0
  free : is_blocked (task s t).state ≡ false
  room : (w : ℕ) → w < task_limit → is_blocked (task s w).state ≡ true → (occurrences (entries s.queue) w ≡ 0) × (s.queue.len < task_limit)

running-free : (x : TaskState) → is_running x ≡ true → (is_ready x ≡ false) × (is_blocked x ≡ false)
running-free TaskState.Absent e = absurd (true≢false (sym e))
running-free TaskState.Unstarted e = absurd (true≢false (sym e))
running-free TaskState.Running e = (refl, refl)
running-free (TaskState.Woken v) e = absurd (true≢false (sym e))
running-free (TaskState.Raised x) e = absurd (true≢false (sym e))
running-free (TaskState.Blocked o) e = absurd (true≢false (sym e))

-- the running task of a sound store
runs_of : (s : Store) (t : ℕ) → SoundStore s → is_running (task s t).state ≡ true → Runs s t
runs_of s t w r =
    record {
      ids = w.memory.ids;
      len = w.memory.words_right.queue_short;
      apart = not-queued t (running-free (task s t).state r).0 q;
      free = (running-free (task s t).state r).1;
      room = λ v l b. let z = not-queued v (blocked_unready (task s v).state b) q in (z, room_for s.queue v w.memory.ids w.memory.words_right.queue_short (header-fits s).next_fits q l z);
    }
  where
    q : Queued (header s).next (task s) (entries s.queue)
    q = sound_queue s w

runs_there : (s : Store) (t : ℕ) → SoundStore s → t < (header s).next → (header s).moment ≡ Moment.Running (task_id t) → is_running (task s t).state ≡ true
unfolding view runs_now
runs_there s t w l m = w.facts.runs t l ∙ (ap (λ (x : Moment). runs_now x t) m ∙ eq-eqb t t refl)

module _ (s : Store) (t : ℕ) (k : Runs s t) where
  nowhere-now : stood_at s.queue t ≡ None
  nowhere-now = absent_nowhere s.queue t k.ids k.len k.apart

  same_queue : remove s.queue t ≡ s.queue
  same_queue = (removed-none s.queue t k.ids k.len nowhere-now).1

  -- a waiter that was blocked is put at the back, and taken out again
  module _ (w : ℕ) (low : w < task_limit) (b : is_blocked (task s w).state ≡ true) where
    back : stood_at (push_back s.queue w) w ≡ Some s.queue.len
    back = let z = k.room w low b in pushed_last s.queue w k.ids z.1 z.0

    again : entries (remove (push_back s.queue w) w) ≡ entries s.queue
    again = let z = k.room w low b in pushed_removed s.queue w k.ids z.1 z.0

-- ---- a completion: the task has gone before the value goes up

module _ (s : Store) (t : ℕ) (v : Value) (z : Sized s) (low : t < task_limit) (k : Runs s t) where
  c : ℕ
  c = (task s t).coroutine.0

  abbrev left : Store
  left = add_log (remove_task (put_object s c (completed (object s c))) t) (exited t)

  left-sized : Sized left
  left-sized = unfold remove_task remove_from_ready_queue in (sized-add_log _ (exited t) (sized-put_queue _ _ (sized-put_task _ t absent (sized-put_object s c _ z))))

  left-queue : left.queue ≡ s.queue
  left-queue =
      let gone : left.queue ≡ remove s.queue t = unfold add_log remove_task remove_from_ready_queue put_queue put_task put_object in refl in
      gone ∙ same_queue s t k

  left-rows : (w : ℕ) → task left w ≡ task (put_task s t absent) w
  left-rows w = unfold add_log remove_task remove_from_ready_queue put_queue put_task put_object task in refl

  -- a waiter is not the task that has gone, and was blocked before
  waiter-blocked : (w : ℕ) → is_blocked (task left w).state ≡ true → is_blocked (task s w).state ≡ true
  waiter-blocked w b = by (ℕ_discrete w t)
    where
      by : Dec (w ≡ t) → is_blocked (task s w).state ≡ true
      by (yes e) =
          absurd (true≢false (sym b ∙ (ap (λ (r : Task). is_blocked r.state) (left-rows w)
          ∙ subst (λ (m : ℕ). is_blocked (task (put_task s t absent) m).state ≡ false) (sym e) (blocked-put_task s t absent z low ∙ (unfold absent in refl)))))
      by (no ne) = ap (λ (r : Task). is_blocked r.state) (sym (left-rows w ∙ task_put-other s t w absent ne)) ∙ b

  completed-leaves : ExitLeaves s t (completion_left s t v)
  unfolding completion_left c
  completed-leaves = by (success_effect left (task s t).awaiter v left-sized (task-fits s t).awaiter_fits)
    where
      d : Delivery
      d = deliver_awaiter_success left (task s t).awaiter v

      d-sized : Sized d.store
      d-sized = success_kept Sized sized_closed left (task s t).awaiter v (task-fits s t).awaiter_fits left-sized

      by : Effect left d → ExitLeaves s t d
      by (nobody e n) = record { nowhere = nowhere-now s t k; at_back = λ w q. absurd_some (sym n ∙ q); runs_ahead = λ w q. absurd_some (sym n ∙ q); unwoken = λ q. e.queue ∙ left-queue }
      by (wakes w x e n) =
          let b = waiter-blocked w (unfold task in e.was_blocked) in
          let q : d.store.queue ≡ push_back s.queue w = e.queue ∙ ap (λ (r : ReadyQueue). push_back r w) left-queue in
          record {
            nowhere = nowhere-now s t k;
            at_back = λ u y. subst (λ (m : ℕ). stood_at d.store.queue m ≡ Some s.queue.len) (some-injective w u (sym n ∙ y)) (rw q (back s t k w e.low b));
            runs_ahead = λ u y.
                ap entries (waiter_runs d left w x n d-sized left-sized e.low e.is_woken e.has_begun (unfold task put_task in (ap (λ (l : List ℕ). task_at l w) e.tasks))
                ∙ ap (λ (r : ReadyQueue). remove r w) q)
                ∙ again s t k w e.low b;
            unwoken = λ y. absurd_some (sym y ∙ n);
          }

-- ---- a failure: the error goes up, then the task goes

module _ (s : Store) (t : ℕ) (e : Error) (z : Sized s) (k : Runs s t) where
  abbrev sent : Delivery
  sent = deliver_awaiter_failure s (task s t).awaiter e

  failed-leaves : ExitLeaves s t (failure_left s t e)
  unfolding failure_left
  failed-leaves = by (failure_effect s (task s t).awaiter e z (task-fits s t).awaiter_fits)
    where
      gone : Store
      gone = add_log (remove_task sent.store t) (exited t)

      gone_queue : gone.queue ≡ remove sent.store.queue t
      gone_queue = unfold add_log remove_task remove_from_ready_queue put_queue put_task in refl

      by : Effect s sent → ExitLeaves s t (record { store = gone; woken = sent.woken })
      by (nobody f n) =
          record {
            nowhere = nowhere-now s t k;
            at_back = λ w q. absurd_some (sym n ∙ q);
            runs_ahead = λ w q. absurd_some (sym n ∙ q);
            unwoken = λ q. gone_queue ∙ (ap (λ (r : ReadyQueue). remove r t) f.queue ∙ same_queue s t k);
          }
      by (wakes w x f n) =
          record {
            nowhere = nowhere-now s t k;
            at_back = λ u y. subst (λ (m : ℕ). stood_at gone.queue m ≡ Some s.queue.len) (some-injective w u (sym n ∙ y)) (rw q (back s t k w f.low b));
            runs_ahead = λ u y.
                ap entries (waiter_runs (record { store = gone; woken = sent.woken }) s w x n gone_sized z f.low f.is_woken f.has_begun row ∙ ap (λ (r : ReadyQueue). remove r w) q)
                ∙ again s t k w f.low b;
            unwoken = λ y. absurd_some (sym y ∙ n);
          }
        where
          b : is_blocked (task s w).state ≡ true
          b = unfold task in f.was_blocked

          gone_sized : Sized gone
          gone_sized =
              unfold remove_task remove_from_ready_queue in
              (sized-add_log _ (exited t) (sized-put_queue _ _ (sized-put_task _ t absent (failure_kept Sized sized_closed s (task s t).awaiter e (task-fits s t).awaiter_fits z))))

          -- the waiter is another task
          other : w ≡ t → ⊥
          other y = true≢false (sym b ∙ (ap (λ (m : ℕ). is_blocked (task s m).state) y ∙ k.free))

          -- its row is as the delivery left it
          row : task gone w ≡ task (put_task s w (restate (task s w) x)) w
          row =
              let a : task gone w ≡ task (put_task sent.store t absent) w = unfold add_log remove_task remove_from_ready_queue put_queue task in refl in
              let c : task sent.store w ≡ task (put_task s w (restate (task s w) x)) w = unfold task put_task in (ap (λ (l : List ℕ). task_at l w) f.tasks) in
              a ∙ (task_put-other sent.store t w absent other ∙ c)

          room : (occurrences (entries s.queue) w ≡ 0) × (s.queue.len < task_limit)
          room = k.room w f.low b

          apart : occurrences (entries (push_back s.queue w)) t ≡ 0
          apart = rw (occurrences_push s.queue w t k.ids room.1, k.apart, ne_eqb w t other)

          q : gone.queue ≡ push_back s.queue w
          q =
              let ids : length (push_back s.queue w).ids ≡ task_limit = push_back-length s.queue w ∙ k.ids in
              let len : (push_back s.queue w).len ≤ task_limit = push_back-len s.queue w k.len in
              gone_queue ∙ (ap (λ (r : ReadyQueue). remove r t) f.queue
              ∙ (removed-none (push_back s.queue w) t ids len (absent_nowhere (push_back s.queue w) t ids len apart)).1)

-- ---- the theorems: the running task of a sound store, a lent one too

-- it completes
pub completion_leaves : (s : Store) (t : ℕ) (v : Value) → SoundStore s → t < (header s).next → (header s).moment ≡ Moment.Running (task_id t) → ExitLeaves s t (completion_left s t v)
completion_leaves s t v w l m = completed-leaves s t v w.memory.sized (omega (arith, (header-fits s).next_fits)) (runs_of s t w (runs_there s t w l m))

-- it fails
pub failure_leaves : (s : Store) (t : ℕ) (e : Error) → SoundStore s → t < (header s).next → (header s).moment ≡ Moment.Running (task_id t) → ExitLeaves s t (failure_left s t e)
failure_leaves s t e w l m = failed-leaves s t e w.memory.sized (runs_of s t w (runs_there s t w l m))
