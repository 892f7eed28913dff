-- What completions, failures, resumes, results, cancels and main's end leave: `Left`, and what must happen has happened.
use Rattle.std.specs.Prelude.{◌≡◌, Bool, ◌||◌, List, [], ◌∷◌, eqb, ltb}
use Rattle.std.proofs.Math.Path.{refl, ap, subst}
use Rattle.std.proofs.Common.{sym, ◌∙◌, true≢false, inl, inr, not-suc-le-zero, arith}
use Rattle.std.proofs.Math.Bool.{true, false}
use Rattle.std.proofs.Math.Option.{Option, none, some}
use Prim.Native.Nat.{ℕ, zero, suc, ◌+◌, ◌≤◌, ◌<◌}
use Rattle.std.proofs.Math.Decide.{ℕ_discrete}
use borrow.Author.Tests.{eq-eqb, ne_eqb, ltb-true}
use Rattle.asyncio.specs.declared.TaskId.{TaskId}
use Rattle.asyncio.specs.declared.Value.{Value}
use Rattle.asyncio.specs.declared.Error.{Error}
use Rattle.asyncio.specs.declared.Awaiter.{Awaiter}
use Rattle.asyncio.specs.declared.TaskState.{TaskState}
use Rattle.asyncio.specs.declared.Task.{Task}
use Rattle.asyncio.specs.declared.CoroutineState.{CoroutineState}
use Rattle.asyncio.specs.declared.Object.{Object}
use Rattle.asyncio.specs.declared.Header.{Header}
use Rattle.asyncio.specs.declared.Moment.{Moment}
use Rattle.asyncio.specs.Limits.{task_limit}
use Rattle.asyncio.specs.Numbers.{task_id}
use Rattle.asyncio.specs.Ranges.{ObjectFits}
use Rattle.asyncio.specs.RangeLaws.{object_back}
use Rattle.asyncio.specs.Layout.{object_words, to_object}
use Rattle.asyncio.specs.States.{pick, is_live, is_blocked, is_unstarted}
use Rattle.queue.specs.Queue.{empty_queue}
use Rattle.machine.specs.Store.{Store, LogEntry, reached, exited, removed, task, object, header, put_task, put_header, put_object, put_queue, add_log, set_state, set_moment, absent}
use Rattle.machine.specs.Scheduler.{live, pending_call_ids, remove_task, cancel_task, remove_from, cleanup}
use Rattle.machine.specs.Delivery.{deliver_awaiter_failure}
use Rattle.machine.specs.Events.{How, value, raises, Control, waits, Switched, Result, run, yield, activate, resume_next, handle_task_failure, handle_task_completion, completed, apply_future_results, wake_in_order}
use Rattle.machine.specs.History.{Entry, said, lives, stays_blocked, spawned_for, running, coroutine_of}
use Rattle.machine.specs.Honest.{spawns, ends_task, exits_in, removes_in, ended, RemoveHonest}
use Rattle.machine_laws.specs.Views.{Sized}
use Rattle.machine_laws.specs.StoreLaws.{task-fits, object-fits, header-fits, live-put_task, task_put-other, sized-put_task, sized-add_log, sized-put_queue, sized-set_state}
use Rattle.machine_laws.specs.WokenLaws.{failure_woken}
use Rattle.machine_theorems.specs.Soundness.Stores.{SoundStore}
use Rattle.machine_theorems.specs.Soundness.Exits.{runner_low, runner-runs}
use Rattle.machine_theorems.specs.Soundness.RowFacts.{remove-sized}
use Rattle.machine_sessions.specs.Stall.Standing.{moment_head}
use Rattle.machine_sessions.specs.Queue.Tracked.{Tracked, live_low}
use Rattle.machine_sessions.specs.Honest.Spawned.{Shape, shape, is_used, used_old, Spawned}
use Rattle.machine_sessions.specs.Honest.HonestWalk.{Delivers, Switching, Ends, waited, started, woke, raised_it, Fixed, IsSpawned, failure_fixed, resume-walk, leave_walk, completion_walk, results-walk, cancel-walk, row-task}
use Rattle.machine_sessions.specs.Honest.HonestLog.{LogRight, Origins, Logged, row-log, wakes-log, gone_log, is_live_now, row_logged, exits_logged, goes_logged, settles_logged, logged_delivers, logged_switching, queue_logged}
use Rattle.machine_sessions.specs.Honest.HonestIdle.{Idle, Cancels, goes_cancels}
use Rattle.machine_sessions.specs.Honest.HonestEnds.{Left, Leaves, none-plain, ControlLeft, logged_left, ends-left}

-- ---- K, and what is known of the log for good

pub record Grows (G : List LogEntry → Type 0) : Type 0 where
  pub by_reached : (l : List LogEntry) (t : ℕ) → G l → G (reached t ∷ l)
  pub by_exited : (l : List LogEntry) (t : ℕ) → G l → G (exited t ∷ l)

module _ (K : Store → Type 0) (A : Awaiter → Type 0) (G : List LogEntry → Type 0) (grows : Grows G) where
  abbrev pub With : Store → Type 0
  With u = K u × G u.log

  pub with_delivers : Delivers K A → Delivers With A
  with_delivers d =
      record {
        sized = λ s k. d.sized s k.0;
        row = λ s g w y l e go k. (d.row s g w y l e go k.0, subst G (sym (row-log s g _)) k.1);
        values_put = λ s ps e k. (d.values_put s ps e k.0, unfold Rattle.machine.specs.Store.put_places in k.1);
        wakes = λ s t y l a b r n k. (d.wakes s t y l a b r n k.0, subst G (sym (wakes-log s t.0 y)) (grows.by_reached s.log t.0 k.1));
        onward = λ s g x w e a k. d.onward s g x w e a k.0;
      }

  pub with_switching : Switching K A → Switching With A
  with_switching d =
      record {
        queued = λ s q k. (d.queued s q k.0, unfold put_queue in k.1);
        sent_to = λ s t l e n k. d.sent_to s t l e n k.0;
        exits = λ s t l e n k. (d.exits s t l e n k.0, subst G (sym (gone_log s t (exited t))) (grows.by_exited s.log t k.1));
      }

-- what a switch ends with, of less
pub ends-map : (K J : Store → Type 0) → ((u : Store) → K u → J u) → (y : Switched) → Ends K y → Ends J y
ends-map K J f y (waited u k e) = waited u (f u k) e
ends-map K J f y (started u t g l k s n e) = started u t g l (f u k) s n e
ends-map K J f y (woke u t v l k s e) = woke u t v l (f u k) s e
ends-map K J f y (raised_it u t v l k s e) = raised_it u t v l (f u k) s e

yield-log : (u : Store) → (yield u).store.log ≡ u.log
unfolding yield set_moment put_header
yield-log u = refl

yield-control : (u : Store) → (yield u).control ≡ waits (pending_call_ids u)
unfolding yield
yield-control u = refl

run-log : (u : Store) (t : ℕ) (a : How) → (run u t a).store.log ≡ u.log
unfolding run set_moment put_header set_state put_task
run-log u t a = refl

-- and the log of the store where it ends
pub ends-log : (K : Store → Type 0) (G : List LogEntry → Type 0) → ((u : Store) → K u → G u.log) → (y : Switched) → Ends K y → G y.store.log
ends-log K G f y (waited u k e) = subst (λ (z : Switched). G z.store.log) (sym e) (subst G (sym (yield-log u)) (f u k))
ends-log K G f y (started u t g l k s n e) = subst (λ (z : Switched). G z.store.log) (sym e) (subst G (sym (run-log _ t _ ∙ row-log u _ _)) (f u k))
ends-log K G f y (woke u t v l k s e) = subst (λ (z : Switched). G z.store.log) (sym e) (subst G (sym (run-log u t (value v))) (f u k))
ends-log K G f y (raised_it u t v l k s e) = subst (λ (z : Switched). G z.store.log) (sym e) (subst G (sym (run-log u t (raises v))) (f u k))

-- the host has control in waiting, and else a task runs
not-waiting : {A : Type 0} (t : TaskId) → Moment.Running t ≡ Moment.Waiting → A
not-waiting t e = let z : ◌≡◌ {A = ℕ} 0 1 = cc in absurd (omega arith)

abbrev pub WaitsThen : Switched → Type 0
WaitsThen y = (header y.store).moment ≡ Moment.Waiting → (cs : List ℕ) × (y.control ≡ waits cs)

run_moment : (u : Store) (t : ℕ) (a : How) → Sized u → t < task_limit → (header (run u t a).store).moment ≡ Moment.Running (task_id t)
unfolding run
run_moment u t a z l = (moment_head (set_state u t TaskState.Running) (Moment.Running (task_id t)) (sized-set_state u t TaskState.Running z) l).1

pub ends-waits : (K : Store → Type 0) → ((u : Store) → K u → Sized u) → (y : Switched) → Ends K y → WaitsThen y
ends-waits K f y (waited u k e) = subst WaitsThen (sym e) (λ m. (pending_call_ids u, yield-control u))
ends-waits K f y (started u t g l k s n e) =
    subst WaitsThen (sym e) (λ m. not-waiting (task_id t) (sym (run_moment _ t _ (Rattle.machine_laws.specs.StoreLaws.sized-put_object u _ _ (f u k)) l) ∙ m))
ends-waits K f y (woke u t v l k s e) = subst WaitsThen (sym e) (λ m. not-waiting (task_id t) (sym (run_moment u t (value v) (f u k) l) ∙ m))
ends-waits K f y (raised_it u t v l k s e) = subst WaitsThen (sym e) (λ m. not-waiting (task_id t) (sym (run_moment u t (raises v) (f u k) l) ∙ m))

-- ---- logs

or_true : (b : Bool) → (b || true) ≡ true
or_true true = refl
or_true false = refl

exits_grow : (t : ℕ) → Grows (λ l. exits_in l t ≡ true)
unfolding exits_in
exits_grow t = record { by_reached = λ l u e. e; by_exited = λ l u e. ap (λ (b : Bool). eqb u t || b) e ∙ or_true (eqb u t) }

exits_now : (l : List LogEntry) (t : ℕ) → exits_in (exited t ∷ l) t ≡ true
unfolding exits_in
exits_now l t = ap (λ (b : Bool). b || exits_in l t) (eq-eqb t t refl)

removes_now : (l : List LogEntry) (t : ℕ) → removes_in (removed t ∷ l) t ≡ true
unfolding removes_in
removes_now l t = ap (λ (b : Bool). b || removes_in l t) (eq-eqb t t refl)

removes_more : (l : List LogEntry) (u t : ℕ) → removes_in l t ≡ true → removes_in (removed u ∷ l) t ≡ true
unfolding removes_in
removes_more l u t e = ap (λ (b : Bool). eqb u t || b) e ∙ or_true (eqb u t)

-- a coroutine that has started is completed: its shape stays
completed-shape : (y : Object) → ObjectFits y → is_used (shape y) ≡ true → shape (to_object (object_words (completed y))) ≡ shape y
unfolding completed shape
completed-shape Object.Unmade f e = absurd (true≢false (sym e))
completed-shape (Object.Coroutine g CoroutineState.New) f e = absurd (true≢false (sym e))
completed-shape (Object.Coroutine g CoroutineState.Running) f e = ap shape (object_back (Object.Coroutine g CoroutineState.Completed) f)
completed-shape (Object.Coroutine g CoroutineState.Completed) f e = ap shape (object_back (Object.Coroutine g CoroutineState.Completed) f)
completed-shape (Object.ExternalFuture c x) f e = absurd (true≢false (sym e))
completed-shape (Object.GatherFuture g n x) f e = absurd (true≢false (sym e))

-- ---- events

-- what is known before an event: nothing is logged yet
pub record Held (h : List Entry) (s : Store) : Type 0 where
  pub tracked : Tracked (lives h) (stays_blocked h) s
  pub spawns_are : Spawned (spawned_for h) (coroutine_of h) (spawns h) (λ o. shape (object s o)) s
  pub origins : Origins h (λ o. shape (object s o))
  pub empty_log : s.log ≡ []

module _ (h : List Entry) (s : Store) (w : SoundStore s) (k : Held h s) (x : Entry) where
  abbrev N : ℕ → Shape
  N o = shape (object s o)

  abbrev L : Store → Type 0
  L u = Logged h x N u

  pub begins_logged : L s
  begins_logged = record { tracked = k.tracked; spawns_are = k.spawns_are; log_right = subst (LogRight h x) (sym k.empty_log) (unfold LogRight in tt) }

  abbrev Any : Awaiter → Type 0
  Any a = Unit {0}

  -- ---- the end of a spawned task

  module _ (t : ℕ) (m : (header s).moment ≡ Moment.Running (task_id (suc t))) (rn : running h ≡ some (suc t)) (en : ends_task (said x) ≡ true) where
    abbrev c : ℕ
    c = (task s (suc t)).coroutine.0

    runs_now : (task s (suc t)).state ≡ TaskState.Running
    runs_now = runner-runs s (suc t) w m

    low : suc t < task_limit
    low = omega (arith, runner_low s (suc t) w m, (header-fits s).next_fits)

    its-used : is_used (N c) ≡ true
    its-used = (k.spawns_are.tasks t (runner_low s (suc t) w m) (ap is_live runs_now)).begun (ap is_unstarted runs_now)

    not-zero : eqb (suc t) 0 ≡ false
    not-zero = ne_eqb (suc t) 0 (λ q. not-suc-le-zero {n = 0} (omega arith))

    abbrev G : List LogEntry → Type 0
    G l = exits_in l (suc t) ≡ true

    abbrev Gone : Store → Type 0
    Gone u = L u × G u.log

    gone-delivers : Delivers Gone Any
    gone-delivers = with_delivers L Any G (exits_grow (suc t)) (logged_delivers h x N)

    gone-switching : Switching Gone Any
    gone-switching = with_switching L Any G (exits_grow (suc t)) (logged_switching h x N k.origins)

    exit : (u : Store) → task u (suc t) ≡ task s (suc t) → L u → Gone (add_log (remove_task u (suc t)) (exited (suc t)))
    exit u e j = (
      exits_logged h x N u (suc t) (is_live_now h x N u (suc t) low (ap (λ (r : Task). is_live r.state) e ∙ ap is_live runs_now) j) not-zero (ap (λ (r : Task). is_blocked r.state) e ∙ ap is_blocked runs_now)
          (ap (λ (r : Task). is_used (N r.coroutine.0)) e ∙ its-used) (ended rn en) j,
      subst G (sym (gone_log u (suc t) (exited (suc t)))) (exits_now u.log (suc t)),
    )

    pub complete-ends : (v : Value) → Ends Gone (handle_task_completion s (suc t) v)
    unfolding handle_task_completion
    complete-ends v =
        completion_walk Gone Any gone-delivers gone-switching _ (task s (suc t)).awaiter v (task-fits s (suc t)).awaiter_fits tt
        (exit (put_object s c (completed (object s c))) (row-task s c _ (suc t)) (row_logged h x N s c _ (task-fits s (suc t)).coroutine_fits (completed-shape (object s c) (object-fits s c) its-used) begins_logged))

    pub fail-ends : (e : Error) → Ends Gone (handle_task_failure activate s (suc t) e)
    unfolding handle_task_failure
    fail-ends e =
        leave_walk Gone Any gone-delivers gone-switching _ (record { fits = (failure_woken s (task s (suc t)).awaiter e k.tracked.sized (task-fits s (suc t)).awaiter_fits).fits }) (exit _ y.1.row y.0)
      where
        d : Store
        d = (deliver_awaiter_failure s (task s (suc t)).awaiter e).store

        y : L d × Fixed (suc t) (task s (suc t)) c d
        y = failure_fixed L Any (logged_delivers h x N) (logged_switching h x N k.origins) s (suc t) e (ap is_blocked runs_now) (used_old (object s c) its-used) tt begins_logged

    -- what it leaves
    pub exit_left : (y : Switched) → Ends Gone y → Leaves x (some y.control) y.store → Left h x y.store
    exit_left y e l = ends-left h x N k.origins y (ends-map Gone L (λ u j. j.0) y e) l

    pub exit_logged : (y : Switched) → Ends Gone y → exits_in y.store.log (suc t) ≡ true
    exit_logged y e = ends-log Gone G (λ u j. j.1) y e

    pub exit_waits : (y : Switched) → Ends Gone y → WaitsThen y
    exit_waits y e = ends-waits Gone (λ u j. j.0.tracked.sized) y e

  -- ---- resume

  pub resume-ends : Ends L (resume_next activate s)
  resume-ends = resume-walk L Any (logged_delivers h x N) (logged_switching h x N k.origins) s begins_logged

  pub resume-left : Leaves x (some (resume_next activate s).control) (resume_next activate s).store → Left h x (resume_next activate s).store
  resume-left l = ends-left h x N k.origins _ resume-ends l

  pub resume-waits : WaitsThen (resume_next activate s)
  resume-waits = ends-waits L (λ u j. j.tracked.sized) _ resume-ends

  -- ---- an event that changes nothing of this

  pub same_left : (c : Option Control) → Rattle.machine_sessions.specs.Honest.HonestEnds.Plain c → ControlLeft h x s.log c → Leaves x c s → Left h x s
  same_left c p ct l = logged_left h x N k.origins s c l p ct begins_logged

  -- ---- results

  pub results-left : (rs : List Result) → Leaves x none (wake_in_order s (apply_future_results s rs)) → Left h x (wake_in_order s (apply_future_results s rs))
  unfolding wake_in_order
  results-left rs l =
      logged_left h x N k.origins _ none l none-plain (unfold ControlLeft in tt) (queue_logged h x N _ _ (results-walk L Any (logged_delivers h x N) (λ a. tt) (λ u o p y b e j. settles_logged h x N u o p y b e j) rs s begins_logged))

  -- ---- cancel

  module _ (idle : Idle s) (m : (header s).moment ≡ Moment.Waiting) (t : ℕ) (sp : IsSpawned t) (cn : (said x).cancels ≡ true) where
    abbrev R : Store → Type 0
    R u = L u × Cancels (header s) u

    abbrev Removed : Store → Type 0
    Removed u = R u × (removes_in u.log t ≡ true)

    -- a live spawned task has started
    started-now : (u : Store) (v : ℕ) → IsSpawned v → R u → live u v ≡ true → is_used (N (task u v).coroutine.0) ≡ true
    started-now u zero b j lv = absurd (not-suc-le-zero {n = 0} b.0)
    started-now u (suc v) b j lv =
        let y = live_low u (suc v) lv in (j.0.spawns_are.tasks v y.0 y.1).begun (j.1.begun.started m (suc v) (subst (λ (z : Header). suc v < z.next) j.1.begun.head y.0))

    goes-both : (u : Store) (v : ℕ) → IsSpawned v → R u → R (add_log (remove_task u v) (removed v))
    goes-both u v b j = (goes_logged h x N u v (started-now u v b j) (inl cn) j.0, goes_cancels (header s) u v b j.1)

    goes-removed : (u : Store) (v : ℕ) → IsSpawned v → Removed u → Removed (add_log (remove_task u v) (removed v))
    goes-removed u v b j = (goes-both u v b j.0, subst (λ (l : List LogEntry). removes_in l t ≡ true) (sym (gone_log u v (removed v))) (removes_more u.log v t j.1))

    at_first : R s
    at_first = (
      begins_logged,
      record { begun = record { sized = w.memory.sized; head = refl; started = λ q v b. idle.begun q v b }; ids = w.memory.ids; len = w.memory.words_right.queue_short; stood = idle.stood },
    )

    cancelled-all : Removed (cancel_task s t)
    cancelled-all =
        cancel-walk Removed goes-removed s t (goes-both s t sp at_first, subst (λ (l : List LogEntry). removes_in l t ≡ true) (sym (gone_log s t (removed t))) (removes_now s.log t))

    pub cancel_left : Leaves x none (cancel_task s t) → Left h x (cancel_task s t)
    cancel_left l = logged_left h x N k.origins (cancel_task s t) none l none-plain (unfold ControlLeft in tt) cancelled-all.0.0

    pub cancel_logged : removes_in (cancel_task s t).log t ≡ true
    cancel_logged = cancelled-all.1

    pub cancel-idle : Idle (cancel_task s t)
    cancel-idle =
        let y : Cancels (header s) (cancel_task s t) = cancelled-all.0.1 in
        record { stood = y.stood; begun = λ q v b. y.begun.started m v (subst (λ (z : Header). v < z.next) y.begun.head b) }

  -- ---- main's end

  ends-log-right : (n : ℕ) (u : Store) (t : ℕ) → RemoveHonest h x → LogRight h x u.log → LogRight h x (remove_from u t n).log
  unfolding remove_from
  ends-log-right zero u t r j = j
  ends-log-right (suc n) u t r j = ends-log-right n _ (t + 1) r (by (is_live (task u t).state))
    where
      by : (b : Bool) → LogRight h x (pick b (add_log (put_task u t absent) (removed t)) u).log
      by true = unfold add_log put_task LogRight in (r, j)
      by false = j

  pub end-log_right : running h ≡ some 0 → ends_task (said x) ≡ true → LogRight h x (cleanup s).log
  unfolding cleanup set_moment put_header put_queue
  end-log_right rn en = ends-log-right (header s).next s 0 (inr (rn, en)) begins_logged.log_right

  swept : (n : ℕ) (u : Store) (t : ℕ) → Sized u → t + n ≤ task_limit → ((v : ℕ) → v < t → is_live (task u v).state ≡ false) → (v : ℕ) → v < t + n → is_live (task (remove_from u t n) v).state ≡ false
  unfolding remove_from absent
  swept zero u t z l f v b = f v (omega (arith, b))
  swept (suc n) u t z l f v b = swept n _ (t + 1) (sized-by (is_live (task u t).state)) (omega (arith, l)) (λ y q. by (is_live (task u t).state) refl y q (ℕ_discrete y t)) v (omega (arith, b))
    where
      sized-by : (b : Bool) → Sized (pick b (add_log (put_task u t absent) (removed t)) u)
      sized-by true = sized-add_log _ (removed t) (sized-put_task u t absent z)
      sized-by false = z

      at : (y : ℕ) → task (add_log (put_task u t absent) (removed t)) y ≡ task (put_task u t absent) y
      at y = unfold add_log task in refl

      by : (b : Bool) → is_live (task u t).state ≡ b → (y : ℕ) → y < t + 1 → Dec (y ≡ t) → is_live (task (pick b (add_log (put_task u t absent) (removed t)) u) y).state ≡ false
      by true e y q (yes d) =
          ap (λ (r : Task). is_live r.state) (at y) ∙ subst (λ (p : ℕ). is_live (task (put_task u t absent) p).state ≡ false) (sym d) (live-put_task u t absent z (omega (arith, l)))
      by true e y q (no ne) = ap (λ (r : Task). is_live r.state) (at y ∙ task_put-other u t y absent ne) ∙ f y (omega (arith, q, ne))
      by false e y q (yes d) = subst (λ (p : ℕ). is_live (task u p).state ≡ false) (sym d) e
      by false e y q (no ne) = f y (omega (arith, q, ne))

  remove-head : (n : ℕ) (u : Store) (t : ℕ) → header (remove_from u t n) ≡ header u
  unfolding remove_from
  remove-head zero u t = refl
  remove-head (suc n) u t = remove-head n _ (t + 1) ∙ by (is_live (task u t).state)
    where
      by : (b : Bool) → header (pick b (add_log (put_task u t absent) (removed t)) u) ≡ header u
      by true = unfold add_log put_task header in refl
      by false = refl

  abbrev gone : Store
  gone = remove_from s 0 (header s).next

  cleanup-next : (header (cleanup s)).next ≡ (header s).next
  unfolding cleanup
  cleanup-next =
      (moment_head (put_queue gone empty_queue) Moment.Ended (sized-put_queue gone empty_queue (remove-sized (header s).next s 0 w.memory.sized)) tt).0
      ∙ (same ∙ ap (λ (y : Header). y.next) (remove-head (header s).next s 0))
    where
      same : (header (put_queue gone empty_queue)).next ≡ (header gone).next
      same = unfold header put_queue in refl

  cleanup-task : (t : ℕ) → task (cleanup s) t ≡ task gone t
  unfolding cleanup set_moment put_header put_queue task
  cleanup-task t = refl

  pub end_dead : (t : ℕ) → live (cleanup s) t ≡ false
  end_dead t = by (ltb t (header (cleanup s)).next) refl
    where
      by : (b : Bool) → ltb t (header (cleanup s)).next ≡ b → live (cleanup s) t ≡ false
      by true q = unfold live in (rw q (ap (λ (r : Task). is_live r.state) (cleanup-task t) ∙ dead))
        where
          dead : is_live (task gone t).state ≡ false
          dead = swept (header s).next s 0 w.memory.sized (omega (arith, (header-fits s).next_fits)) (λ v l. absurd (not-suc-le-zero {n = 0} (omega (arith, l)))) t (omega (arith, ltb-true t (header (cleanup s)).next q, cleanup-next))
      by false q = unfold live in (rw q)
