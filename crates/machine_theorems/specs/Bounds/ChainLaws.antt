-- A chain of failed starts: each is the exit of a live task, so there are at most as many as live tasks.
use Rattle.std.specs.Prelude.{◌≡◌, true, eqb}
use Rattle.std.proofs.Math.Path.{refl}
use Rattle.std.proofs.Common.{sym, ◌∙◌, arith}
use Rattle.std.proofs.Math.Option.{Option, none, some}
use Prim.Native.Nat.{ℕ, zero, suc, ◌+◌, ◌≤◌, ◌<◌}
use Rattle.std.proofs.Math.Decide.{ℕ_discrete}
use Rattle.asyncio.specs.declared.Error.{Error}
use Rattle.asyncio.specs.declared.Awaiter.{Awaiter}
use Rattle.asyncio.specs.declared.TaskState.{TaskState}
use Rattle.asyncio.specs.declared.Task.{Task}
use Rattle.asyncio.specs.declared.CoroutineState.{CoroutineState}
use Rattle.asyncio.specs.declared.Object.{Object}
use Rattle.asyncio.specs.declared.Moment.{Moment}
use Rattle.asyncio.specs.Numbers.{task_id}
use Rattle.asyncio.specs.States.{is_live, is_blocked}
use Rattle.asyncio.specs.Limits.{task_limit}
use Rattle.asyncio.specs.RangeLaws.{pick_has}
use Rattle.queue.specs.Queue.{pop_front, front_of}
use Rattle.queue.proofs.QueueLaws.{front_of-fits}
use Rattle.machine.specs.Store.{Store, task, header, object, put_task, put_object, put_header, put_queue, restate, set_state, set_moment, add_log, exited, absent}
use Rattle.machine.specs.Scheduler.{AwaitedGather, as_awaited, live_count, make_ready, push_ready, remove_task, remove_from_ready_queue}
use Rattle.machine.specs.Delivery.{Delivery, nobody_woken, deliver_to_task, fail_awaited, fail_gather, climb, awaited_count, send_error, climb_error, deliver_awaiter_failure}
use Rattle.machine.specs.Events.{Switched, How, start, value, raises, run, yield, new_function, resume_next, resume_after_task_exit, handle_task_failure, start_by, start_task, activate_state, activate_within, activate}
use Rattle.machine_laws.specs.Views.{Sized}
use Rattle.machine_laws.specs.Statements.{SameLive}
use Rattle.machine_laws.specs.StoreLaws.{task-fits, live-put_task, task_put-other, sized-put_object, sized-put_queue, sized-set_state}
use Rattle.machine_laws.specs.DeliveryLaws.{failure_same, same-live_count}
use Rattle.machine_laws.specs.CycleLaws.{live-falls}
use Rattle.machine_laws.specs.WokenLaws.{WokenFits, failure_woken}
use Rattle.machine_theorems.specs.Bounds.Counts.{exits_in}
use Rattle.machine_theorems.specs.Bounds.FuelLaws.{sized_gone}

-- ---- a delivery is no exit

-- as many exits in what has happened
abbrev SameExits : Store → Store → Type 0
SameExits s u = exits_in u.log ≡ exits_in s.log

task-exits : (s : Store) (t : ℕ) (x : TaskState) → SameExits s (deliver_to_task s t x).store
unfolding deliver_to_task nobody_woken
task-exits s t x =
    pick_has (λ (d : Delivery). SameExits s d.store) (is_blocked (task s t).state)
    (unfold exits_in add_log make_ready push_ready put_queue set_state put_task in refl) refl

fail-exits : (s : Store) (g : ℕ) (x : Error) → SameExits s (fail_gather s g x).store
unfolding fail_gather fail_awaited put_object
fail-exits s g x = by (as_awaited (object s g))
  where
    by : (w : Option AwaitedGather) → SameExits s (fail_awaited s g x w).store
    by none = refl
    by (some w) = refl

climb-exits : (go : Store → Awaiter → Delivery) (s u : Store) (a : Option Awaiter) → SameExits s u → ((b : Awaiter) → SameExits u (go u b).store) → SameExits s (climb go u a).store
unfolding climb nobody_woken
climb-exits go s u none e h = e
climb-exits go s u (some b) e h = h b ∙ e

send-exits : (go : Store → Awaiter → Error → Delivery) → ((s : Store) (a : Awaiter) (x : Error) → SameExits s (go s a x).store)
    → (s : Store) (a : Awaiter) (x : Error) → SameExits s (send_error go s a x).store
unfolding send_error nobody_woken
send-exits go h s Awaiter.Nobody x = refl
send-exits go h s (Awaiter.Task t) x = task-exits s t.0 (TaskState.Raised x)
send-exits go h s (Awaiter.GatherSlot g source) x = climb-exits (λ y a. go y a x) s _ _ (fail-exits s g.0 x) (λ b. h _ b x)

climb_error-exits : (k : ℕ) (s : Store) (a : Awaiter) (x : Error) → SameExits s (climb_error k s a x).store
unfolding climb_error nobody_woken
climb_error-exits zero s a x = refl
climb_error-exits (suc k) s a x = send-exits (λ y b w. climb_error k y b w) (λ y b w. climb_error-exits k y b w) s a x

failure_exits : (s : Store) (a : Awaiter) (x : Error) → SameExits s (deliver_awaiter_failure s a x).store
unfolding deliver_awaiter_failure
failure_exits s a x = send-exits (λ y b w. climb_error (awaited_count s) y b w) (λ y b w. climb_error-exits (awaited_count s) y b w) s a x

-- ---- each exit is one live task less

-- as many live tasks less as there are exits more
pub record Spent (s u : Store) : Type 0 where
  pub spent : exits_in u.log + live_count u ≡ exits_in s.log + live_count s

abbrev SpentBy : Store → Switched → Type 0
SpentBy s x = Spent s x.store

spent_then : {s u x : Store} → Spent s u → Spent u x → Spent s x
spent_then k l = record { spent = l.spent ∙ k.spent }

queue_spent : (s : Store) (t : ℕ) → Spent s (remove_from_ready_queue s t)
unfolding remove_from_ready_queue put_queue live_count
queue_spent s t = record { spent = refl }

pop_spent : (s : Store) → Spent s (put_queue s (pop_front s.queue))
unfolding put_queue live_count
pop_spent s = record { spent = refl }

yield_spent : (s : Store) → Spent s (yield s).store
unfolding yield set_moment put_header live_count
yield_spent s = record { spent = refl }

state_live : (s : Store) (t : ℕ) (x : TaskState) → Sized s → t < task_limit → is_live x ≡ true → is_live (task s t).state ≡ true → SameLive s (set_state s t x)
unfolding set_state restate put_task header
state_live s t x z l e q = record { sized = sized-set_state s t x z; same_header = refl; lives = λ u. by u (ℕ_discrete u t) }
  where
    r : Task
    r = record { state = x; awaiter = (task s t).awaiter; coroutine = (task s t).coroutine }

    by : (u : ℕ) → Dec (u ≡ t) → is_live (task (put_task s t r) u).state ≡ is_live (task s u).state
    by u (yes p) = rw (p, live-put_task s t r z l) (e ∙ sym q)
    by u (no ne) = rw (task_put-other s t u r ne)

moment_spent : (s : Store) (m : Moment) → Spent s (set_moment s m)
unfolding set_moment put_header live_count
moment_spent s m = record { spent = refl }

same_spent : (s u : Store) → SameLive s u → SameExits s u → Spent s u
same_spent s u k e = record { spent = rw (e, same-live_count s u k) }

run_spent : (s : Store) (t : ℕ) (h : How) → Sized s → t < task_limit → is_live (task s t).state ≡ true → Spent s (run s t h).store
unfolding run
run_spent s t h z l e =
    let log : SameExits s (set_state s t TaskState.Running) = unfold set_state put_task in refl in
    spent_then (same_spent s _ (state_live s t TaskState.Running z l refl e) log) (moment_spent (set_state s t TaskState.Running) (Moment.Running (task_id t)))

-- the start of a coroutine changes no task
object_spent : (s : Store) (o : ℕ) (r : Object) → Spent s (put_object s o r)
unfolding put_object live_count
object_spent s o r = record { spent = refl }

start_spent : (s : Store) (t c : ℕ) (r : Object) (h : How) → Sized s → t < task_limit → is_live (task s t).state ≡ true → Spent s (run (put_object s c r) t h).store
start_spent s t c r h z l e =
    let same : task (put_object s c r) t ≡ task s t = unfold task put_object in refl in
    spent_then (object_spent s c r) (run_spent (put_object s c r) t h (sized-put_object s c r z) l (rw same e))

-- a task goes: one exit more, one live task less
gone_spent : (s : Store) (t : ℕ) → Sized s → t < task_limit → is_live (task s t).state ≡ true → Spent s (add_log (remove_task s t) (exited t))
gone_spent s t z l e =
    let fall : live_count s ≡ suc (live_count (put_task s t absent)) = live-falls s t z l e in
    let left : live_count (add_log (remove_task s t) (exited t)) ≡ live_count (put_task s t absent) = unfold live_count add_log remove_task remove_from_ready_queue put_queue in refl in
    let more : exits_in (add_log (remove_task s t) (exited t)).log ≡ suc (exits_in s.log) = unfold exits_in add_log remove_task remove_from_ready_queue put_queue put_task in refl in
    record { spent = omega (arith, fall, left, more) }

module _ (go : Store → ℕ → Switched) (h : (s : Store) (t : ℕ) → Sized s → t < task_limit → Spent s (go s t).store) where
  next-spent : (s : Store) → Sized s → Spent s (resume_next go s).store
  unfolding resume_next
  next-spent s z =
      pick_has (λ (x : Switched). Spent s x.store) (eqb s.queue.len 0) (yield_spent s)
      (spent_then (pop_spent s) (h (put_queue s (pop_front s.queue)) (front_of s.queue).0 (sized-put_queue s _ z) (front_of-fits s.queue)))

  exit_spent : (d : Delivery) → Sized d.store → WokenFits d → Spent d.store (resume_after_task_exit go d).store
  unfolding resume_after_task_exit
  exit_spent d z m = by d.woken refl
    where
      by : (w : Option ℕ) → d.woken ≡ w
          → SpentBy d.store (elim w [ none ↦ resume_next go d.store | some t ↦ go (remove_from_ready_queue d.store t) t ])
      by none e = next-spent d.store z
      by (some t) e =
          let sized : Sized (remove_from_ready_queue d.store t) = unfold remove_from_ready_queue in sized-put_queue d.store _ z in
          spent_then (queue_spent d.store t) (h (remove_from_ready_queue d.store t) t sized (m.fits t e))

  module _ (s : Store) (t : ℕ) (z : Sized s) (l : t < task_limit) (e : is_live (task s t).state ≡ true) where
    failure-spent : (x : Error) → Spent s (handle_task_failure go s t x).store
    unfolding handle_task_failure
    failure-spent x =
        let a : Awaiter = (task s t).awaiter in
        let u : Store = (deliver_awaiter_failure s a x).store in
        let m : SameLive s u = failure_same s a x z (task-fits s t).awaiter_fits in
        let w : WokenFits (deliver_awaiter_failure s a x) = failure_woken s a x z (task-fits s t).awaiter_fits in
        spent_then (same_spent s u m (failure_exits s a x))
        (spent_then (gone_spent u t m.sized l (m.lives t ∙ e)) (exit_spent _ (sized_gone u t m.sized) (record { fits = w.fits })))

    start-by-spent : (c : ℕ) (f : Option ℕ) → Spent s (start_by go s t c f).store
    unfolding start_by
    start-by-spent c none = failure-spent Error.CoroutineReuse
    start-by-spent c (some f) = start_spent s t c (Object.Coroutine f CoroutineState.Running) (start c f) z l e

  state-spent : (s : Store) (t : ℕ) (x : TaskState) → (task s t).state ≡ x → Sized s → t < task_limit → Spent s (activate_state go s t x).store
  unfolding activate_state start_task
  state-spent s t TaskState.Absent e z l = yield_spent s
  state-spent s t TaskState.Unstarted e z l = start-by-spent s t z l (rw e) (task s t).coroutine.0 (new_function (object s (task s t).coroutine.0))
  state-spent s t TaskState.Running e z l = yield_spent s
  state-spent s t (TaskState.Woken v) e z l = run_spent s t (value v) z l (rw e)
  state-spent s t (TaskState.Raised x) e z l = run_spent s t (raises x) z l (rw e)
  state-spent s t (TaskState.Blocked o) e z l = yield_spent s

within_spent : (k : ℕ) (s : Store) (t : ℕ) → Sized s → t < task_limit → Spent s (activate_within k s t).store
unfolding activate_within
within_spent zero s t z l = yield_spent s
within_spent (suc k) s t z l = state-spent (λ x u. activate_within k x u) (λ x u y m. within_spent k x u y m) s t (task s t).state refl z l

-- A chain of failed starts: each is an exit, and leaves one live task less.
pub activate_spent : (s : Store) (t : ℕ) → Sized s → t < task_limit
    → exits_in (activate s t).store.log + live_count (activate s t).store ≡ exits_in s.log + live_count s
unfolding activate
activate_spent s t z l = (within_spent (live_count s) s t z l).spent

-- There are at most as many failed starts as live tasks.
pub activate_bound : (s : Store) (t : ℕ) → Sized s → t < task_limit → exits_in (activate s t).store.log ≤ exits_in s.log + live_count s
activate_bound s t z l = omega (arith, activate_spent s t z l)
