-- The fuel of each definition is a bound and not a cut: with any more of it the result is the same, so that none of them ever stops for want of fuel.
use Rattle.std.proofs.Math.Path.{◌≡◌, refl, sym}
use Rattle.std.proofs.Common.{ap, ◌∙◌}
use Rattle.std.specs.Prelude.{true, ℕ, zero, suc, ◌≤◌, ◌<◌}
use Rattle.std.proofs.Math.Option.{Option, none, some}
use native.Mathlib.Omega.{arith}
use Rattle.asyncio.specs.declared.Value.{Value}
use Rattle.asyncio.specs.declared.Error.{Error}
use Rattle.asyncio.specs.declared.Awaiter.{Awaiter}
use Rattle.asyncio.specs.declared.TaskState.{TaskState}
use Rattle.asyncio.specs.States.{is_live}
use Rattle.asyncio.specs.Limits.{task_limit}
use Rattle.asyncio.specs.Ranges.{AwaiterFits}
use Rattle.queue.specs.Queue.{pop_front, front_of}
use Rattle.queue.proofs.QueueLaws.{front_of-fits}
use Rattle.machine.specs.Store.{Store, task, put_task, put_queue, add_log, exited, absent}
use Rattle.machine.specs.Scheduler.{live_count, remove_task, remove_from_ready_queue}
use Rattle.machine.specs.Delivery.{Delivery, resolve_child, fail_gather, climb, awaited_count}
use Rattle.machine.specs.Delivery.{send_value, climb_value, deliver_awaiter_success, send_error, climb_error, deliver_awaiter_failure}
use Rattle.machine.specs.Events.{Switched, resume_next, resume_after_task_exit, handle_task_failure, start_by, start_task, activate_state, activate_within, activate}
use Rattle.machine_laws.specs.Views.{Sized}
use Rattle.machine_laws.specs.Statements.{SameLive}
use Rattle.machine_laws.specs.StoreLaws.{task-fits, sized-put_task, sized-put_queue, sized-add_log}
use Rattle.machine_laws.specs.DeliveryLaws.{resolve_sent, fail_sent, success_climbs, failure_climbs, failure_same, same-live_count}
use Rattle.machine_laws.specs.CycleLaws.{live-falls}
use Rattle.machine_laws.specs.WokenLaws.{WokenFits, failure_woken, activate-by}

-- ---- a climb

-- A value on its way up gets through with any fuel above the number of awaited gathers: as `deliver_awaiter_success` says.
pub success_fuel : (k : ℕ) (s : Store) (a : Awaiter) (v : Value) → Sized s → AwaiterFits a → awaited_count s < k → climb_value k s a v ≡ deliver_awaiter_success s a v
success_fuel zero s a v z f l = absurd (omega arith)
success_fuel (suc k) s Awaiter.Nobody v z f l = unfold climb_value deliver_awaiter_success send_value in refl
success_fuel (suc k) s (Awaiter.Task t) v z f l = unfold climb_value deliver_awaiter_success send_value in refl
success_fuel (suc k) s (Awaiter.GatherSlot g source) v z f l =
    by (resolve_child s g.0 source.0 v).onward refl (λ b e.
    let r = resolve_sent s g.0 source.0 v z f.0 in
    success_fuel k (resolve_child s g.0 source.0 v).store b (Value.List g) r.same.sized (r.fits b e) (omega (arith, r.falls b e, l)))
  where
    by : (w : Option Awaiter) → (resolve_child s g.0 source.0 v).onward ≡ w
        → ((b : Awaiter) → (resolve_child s g.0 source.0 v).onward ≡ some b
        → climb_value k (resolve_child s g.0 source.0 v).store b (Value.List g) ≡ deliver_awaiter_success (resolve_child s g.0 source.0 v).store b (Value.List g))
        → climb_value (suc k) s (Awaiter.GatherSlot g source) v ≡ deliver_awaiter_success s (Awaiter.GatherSlot g source) v
    by none e h = unfold climb_value deliver_awaiter_success send_value climb in rw e
    by (some b) e h =
        let here : climb_value (suc k) s (Awaiter.GatherSlot g source) v ≡ climb_value k (resolve_child s g.0 source.0 v).store b (Value.List g) =
        unfold climb_value send_value climb in (rw e) in
        here ∙ h b e ∙ sym (success_climbs s g source v b z f.0 e)

-- The same for an error.
pub failure_fuel : (k : ℕ) (s : Store) (a : Awaiter) (x : Error) → Sized s → AwaiterFits a → awaited_count s < k → climb_error k s a x ≡ deliver_awaiter_failure s a x
failure_fuel zero s a x z f l = absurd (omega arith)
failure_fuel (suc k) s Awaiter.Nobody x z f l = unfold climb_error deliver_awaiter_failure send_error in refl
failure_fuel (suc k) s (Awaiter.Task t) x z f l = unfold climb_error deliver_awaiter_failure send_error in refl
failure_fuel (suc k) s (Awaiter.GatherSlot g source) x z f l =
    by (fail_gather s g.0 x).onward refl (λ b e.
    let r = fail_sent s g.0 x z f.0 in
    failure_fuel k (fail_gather s g.0 x).store b x r.same.sized (r.fits b e) (omega (arith, r.falls b e, l)))
  where
    by : (w : Option Awaiter) → (fail_gather s g.0 x).onward ≡ w
        → ((b : Awaiter) → (fail_gather s g.0 x).onward ≡ some b
        → climb_error k (fail_gather s g.0 x).store b x ≡ deliver_awaiter_failure (fail_gather s g.0 x).store b x)
        → climb_error (suc k) s (Awaiter.GatherSlot g source) x ≡ deliver_awaiter_failure s (Awaiter.GatherSlot g source) x
    by none e h = unfold climb_error deliver_awaiter_failure send_error climb in rw e
    by (some b) e h =
        let here : climb_error (suc k) s (Awaiter.GatherSlot g source) x ≡ climb_error k (fail_gather s g.0 x).store b x =
        unfold climb_error send_error climb in (rw e) in
        here ∙ h b e ∙ sym (failure_climbs s g source x b z f.0 e)

-- ---- a chain of failed starts

-- a task that has gone
pub sized_gone : (u : Store) (t : ℕ) → Sized u → Sized (add_log (remove_task u t) (exited t))
unfolding remove_task remove_from_ready_queue
sized_gone u t z = sized-add_log _ (exited t) (sized-put_queue _ _ (sized-put_task u t absent z))

-- the fuel of `activate`
activate-at : (s : Store) (t k : ℕ) → live_count s ≡ k → activate_within k s t ≡ activate s t
unfolding activate
activate-at s t k e = ap (λ (j : ℕ). activate_within j s t) (sym e)

-- two calls that close the cycle, and agree where at most k tasks live
module _ (k : ℕ) (go come : Store → ℕ → Switched) (h : (s : Store) (t : ℕ) → Sized s → t < task_limit → live_count s ≤ k → go s t ≡ come s t) where
  next_agrees : (s : Store) → Sized s → live_count s ≤ k → resume_next go s ≡ resume_next come s
  unfolding resume_next
  next_agrees s z l =
      let count : live_count (put_queue s (pop_front s.queue)) ≡ live_count s = unfold live_count put_queue in refl in
      let same : go (put_queue s (pop_front s.queue)) (front_of s.queue).0 ≡ come (put_queue s (pop_front s.queue)) (front_of s.queue).0 =
      h (put_queue s (pop_front s.queue)) (front_of s.queue).0 (sized-put_queue s _ z) (front_of-fits s.queue) (omega arith) in
      rw same

  exit-agrees : (d : Delivery) → Sized d.store → WokenFits d → live_count d.store ≤ k → resume_after_task_exit go d ≡ resume_after_task_exit come d
  unfolding resume_after_task_exit
  exit-agrees d z m l = by d.woken refl
    where
      by : (w : Option ℕ) → d.woken ≡ w → ◌≡◌ {A = Switched} (elim w [ none ↦ resume_next go d.store | some t ↦ go (remove_from_ready_queue d.store t) t ])
          (elim w [ none ↦ resume_next come d.store | some t ↦ come (remove_from_ready_queue d.store t) t ])
      by none e = next_agrees d.store z l
      by (some t) e =
          let count : live_count (remove_from_ready_queue d.store t) ≡ live_count d.store = unfold live_count remove_from_ready_queue put_queue in refl in
          h (remove_from_ready_queue d.store t) t (unfold remove_from_ready_queue in sized-put_queue d.store _ z) (m.fits t e) (omega arith)

  module _ (s : Store) (t : ℕ) (z : Sized s) (l : t < task_limit) (e : is_live (task s t).state ≡ true) (q : live_count s ≤ suc k) where
    left-count : (u : Store) → SameLive s u → live_count (add_log (remove_task u t) (exited t)) ≤ k
    left-count u m =
        let fall : live_count u ≡ suc (live_count (put_task u t absent)) = live-falls u t m.sized l (m.lives t ∙ e) in
        let same : live_count u ≡ live_count s = same-live_count s u m in
        let here : live_count (add_log (remove_task u t) (exited t)) ≡ live_count (put_task u t absent) =
        unfold live_count add_log remove_task remove_from_ready_queue put_queue in refl in
        omega arith

    failure-agrees : (x : Error) → handle_task_failure go s t x ≡ handle_task_failure come s t x
    unfolding handle_task_failure
    failure-agrees x =
        let a : Awaiter = (task s t).awaiter in
        let m = failure_same s a x z (task-fits s t).awaiter_fits in
        let w = failure_woken s a x z (task-fits s t).awaiter_fits in
        exit-agrees _ (sized_gone _ t m.sized)
        (record { fits = w.fits }) (left-count (deliver_awaiter_failure s a x).store m)

    start-agrees : (c : ℕ) (f : Option ℕ) → start_by go s t c f ≡ start_by come s t c f
    unfolding start_by
    start-agrees c none = failure-agrees Error.CoroutineReuse
    start-agrees c (some f) = refl

  state-agrees : (s : Store) (t : ℕ) (x : TaskState) → (task s t).state ≡ x → Sized s → t < task_limit → live_count s ≤ suc k → activate_state go s t x ≡ activate_state come s t x
  unfolding activate_state start_task
  state-agrees s t TaskState.Absent e z l q = refl
  state-agrees s t TaskState.Unstarted e z l q = start-agrees s t z l (rw e) q _ _
  state-agrees s t TaskState.Running e z l q = refl
  state-agrees s t (TaskState.Woken v) e z l q = refl
  state-agrees s t (TaskState.Raised x) e z l q = refl
  state-agrees s t (TaskState.Blocked o) e z l q = refl

-- Activating a task gets through with any fuel of at least the number of live tasks: a failed start leaves one live task less.
pub activate_fuel : (k : ℕ) (s : Store) (t : ℕ) → Sized s → t < task_limit → live_count s ≤ k → activate_within k s t ≡ activate s t
activate_fuel zero s t z l q =
    let e : live_count s ≡ 0 = omega arith in
    activate-at s t 0 e
activate_fuel (suc k) s t z l q =
    let here : activate_within (suc k) s t ≡ activate_state (λ x u. activate_within k x u) s t (task s t).state = unfold activate_within in refl in
    here ∙ state-agrees k (λ x u. activate_within k x u) activate (λ x u y m n. activate_fuel k x u y m n) s t (task s t).state refl z l q ∙ sym (activate-by s t z l)
