-- The task that a delivery wakes has a number in range; a task, live or not, is activated by its state; who lives after a failed start.
use Rattle.std.specs.Prelude.{◌≡◌, refl, Bool, true, false, List, [], ℕ, zero, suc, ◌<◌}
use Rattle.std.proofs.Math.Path.{sym}
use Rattle.std.proofs.Common.{ap, ◌∙◌}
use Rattle.std.proofs.Math.Option.{Option, none, some, some-injective}
use Rattle.std.proofs.Math.Decide.{ℕ_discrete}
use Rattle.asyncio.specs.declared.Value.{Value}
use Rattle.asyncio.specs.declared.Error.{Error}
use Rattle.asyncio.specs.declared.Awaiter.{Awaiter}
use Rattle.asyncio.specs.declared.TaskState.{TaskState}
use Rattle.asyncio.specs.declared.Task.{Task}
use Rattle.asyncio.specs.States.{is_live, is_blocked}
use Rattle.asyncio.specs.Limits.{task_limit, object_limit}
use Rattle.asyncio.specs.Ranges.{AwaiterFits}
use Rattle.asyncio.specs.RangeLaws.{pick_has}
use Rattle.machine.specs.Store.{Store, task, put_task, absent}
use Rattle.machine.specs.Scheduler.{live_in, live_count}
use Rattle.machine.specs.Delivery.{Delivery, Settled, nobody_woken, deliver_to_task, resolve_child, fail_gather, climb, awaited_count, send_value, climb_value, deliver_awaiter_success, send_error, climb_error, deliver_awaiter_failure}
use Rattle.machine.specs.Events.{yield, activate_state, activate_within, activate}
use Rattle.machine_laws.specs.Views.{Sized}
use Rattle.machine_laws.specs.Statements.{SameLive}
use Rattle.machine_laws.specs.StoreLaws.{live-put_task, task_put-other}
use Rattle.machine_laws.specs.DeliveryLaws.{absurd_some, Sent, resolve_sent, fail_sent, same-live_count}
use Rattle.machine_laws.specs.CycleLaws.{activate_once}

-- ---- who is woken

pub record WokenFits (d : Delivery) : Type 0 where
  pub fits : (t : ℕ) → d.woken ≡ some t → t < task_limit

nobody-fits : (s : Store) → WokenFits (nobody_woken s)
unfolding nobody_woken
nobody-fits s = record { fits = λ t e. absurd_some e }

task-woken : (s : Store) (t : ℕ) (x : TaskState) → t < task_limit → WokenFits (deliver_to_task s t x)
unfolding deliver_to_task
task-woken s t x l =
    pick_has WokenFits (is_blocked (task s t).state) (record { fits = λ u e. rw (← some-injective t u e) l }) (nobody-fits s)

climb-woken : (go : Store → Awaiter → Delivery) (u : Store) (a : Option Awaiter) → ((b : Awaiter) → a ≡ some b → WokenFits (go u b)) → WokenFits (climb go u a)
unfolding climb
climb-woken go u none h = nobody-fits u
climb-woken go u (some b) h = h b refl

module _ (go : Store → Awaiter → Value → Delivery) (h : (s : Store) (a : Awaiter) (v : Value) → Sized s → AwaiterFits a → WokenFits (go s a v)) where
  send-value-woken : (s : Store) (a : Awaiter) (v : Value) → Sized s → AwaiterFits a → WokenFits (send_value go s a v)
  unfolding send_value
  send-value-woken s Awaiter.Nobody v z f = nobody-fits s
  send-value-woken s (Awaiter.Task t) v z f = task-woken s t.0 (TaskState.Woken v) f
  send-value-woken s (Awaiter.GatherSlot g source) v z f =
      let r = resolve_sent s g.0 source.0 v z f.0 in
      climb-woken (λ y a. go y a (Value.List g)) _ _ (λ b e. h _ b (Value.List g) r.same.sized (r.fits b e))

climb_value-woken : (k : ℕ) (s : Store) (a : Awaiter) (v : Value) → Sized s → AwaiterFits a → WokenFits (climb_value k s a v)
unfolding climb_value
climb_value-woken zero s a v z f = nobody-fits s
climb_value-woken (suc k) s a v z f = send-value-woken (λ y b w. climb_value k y b w) (λ y b w. climb_value-woken k y b w) s a v z f

pub success_woken : (s : Store) (a : Awaiter) (v : Value) → Sized s → AwaiterFits a → WokenFits (deliver_awaiter_success s a v)
unfolding deliver_awaiter_success
success_woken s a v z f =
    send-value-woken (λ y b w. climb_value (awaited_count s) y b w) (λ y b w. climb_value-woken (awaited_count s) y b w) s a v z f

module _ (go : Store → Awaiter → Error → Delivery) (h : (s : Store) (a : Awaiter) (e : Error) → Sized s → AwaiterFits a → WokenFits (go s a e)) where
  send-error-woken : (s : Store) (a : Awaiter) (e : Error) → Sized s → AwaiterFits a → WokenFits (send_error go s a e)
  unfolding send_error
  send-error-woken s Awaiter.Nobody e z f = nobody-fits s
  send-error-woken s (Awaiter.Task t) e z f = task-woken s t.0 (TaskState.Raised e) f
  send-error-woken s (Awaiter.GatherSlot g source) e z f =
      let r = fail_sent s g.0 e z f.0 in
      climb-woken (λ y a. go y a e) _ _ (λ b p. h _ b e r.same.sized (r.fits b p))

climb_error-woken : (k : ℕ) (s : Store) (a : Awaiter) (e : Error) → Sized s → AwaiterFits a → WokenFits (climb_error k s a e)
unfolding climb_error
climb_error-woken zero s a e z f = nobody-fits s
climb_error-woken (suc k) s a e z f = send-error-woken (λ y b w. climb_error k y b w) (λ y b w. climb_error-woken k y b w) s a e z f

pub failure_woken : (s : Store) (a : Awaiter) (e : Error) → Sized s → AwaiterFits a → WokenFits (deliver_awaiter_failure s a e)
unfolding deliver_awaiter_failure
failure_woken s a e z f =
    send-error-woken (λ y b w. climb_error (awaited_count s) y b w) (λ y b w. climb_error-woken (awaited_count s) y b w) s a e z f

-- ---- activating

within_absent : (k : ℕ) (s : Store) (t : ℕ) → (task s t).state ≡ TaskState.Absent → activate_within k s t ≡ yield s
unfolding activate_within activate_state
within_absent zero s t e = refl
within_absent (suc k) s t e = rw e

absent_yields : (s : Store) (t : ℕ) → (task s t).state ≡ TaskState.Absent → activate s t ≡ activate_state activate s t (task s t).state
absent_yields s t e =
    let a : activate s t ≡ yield s = unfold activate in (within_absent (live_count s) s t e) in
    let b : activate_state activate s t (task s t).state ≡ yield s = unfold activate_state in (rw e) in
    a ∙ sym b

-- A task is activated by its state; of one that does not live the host gets control.
pub activate-by : (s : Store) (t : ℕ) → Sized s → t < task_limit → activate s t ≡ activate_state activate s t (task s t).state
activate-by s t z l = by (task s t).state refl
  where
    by : (x : TaskState) → (task s t).state ≡ x → activate s t ≡ activate_state activate s t (task s t).state
    by TaskState.Absent e = absent_yields s t e
    by TaskState.Unstarted e = activate_once s t z l (rw e)
    by TaskState.Running e = activate_once s t z l (rw e)
    by (TaskState.Woken v) e = activate_once s t z l (rw e)
    by (TaskState.Raised x) e = activate_once s t z l (rw e)
    by (TaskState.Blocked o) e = activate_once s t z l (rw e)

-- ---- who lives when a task has gone

-- a task that goes after a delivery leaves as many live as if there had been none
pub removed-same : (s u : Store) (t : ℕ) → Sized s → t < task_limit → SameLive s u → (v : ℕ) → is_live (task (put_task u t absent) v).state ≡ is_live (task (put_task s t absent) v).state
removed-same s u t z l k v = by (ℕ_discrete v t)
  where
    by : Dec (v ≡ t) → is_live (task (put_task u t absent) v).state ≡ is_live (task (put_task s t absent) v).state
    by (yes q) = rw (q, live-put_task u t absent k.sized l, live-put_task s t absent z l)
    by (no ne) = rw (task_put-other u t v absent ne, task_put-other s t v absent ne) (k.lives v)
