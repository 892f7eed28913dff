-- No panic of the Rust is reached, of the task that a delivery wakes: it was blocked, it is ready then, and it is started or runs on.
use Rattle.std.specs.Prelude.{◌≡◌, Bool, true, ℕ, zero, suc, ◌<◌, T, eqb}
use Rattle.std.proofs.Math.Path.{refl}
use Rattle.std.proofs.Common.{ap, sym, subst, ◌∙◌}
use Rattle.std.proofs.Math.Bool.{false}
use Rattle.std.proofs.Math.Option.{Option, none, some, some-injective}
use Rattle.asyncio.specs.declared.Value.{Value}
use Rattle.asyncio.specs.declared.Error.{Error}
use Rattle.asyncio.specs.declared.Awaiter.{Awaiter}
use Rattle.asyncio.specs.declared.TaskState.{TaskState}
use Rattle.asyncio.specs.declared.Task.{Task}
use Rattle.asyncio.specs.Limits.{task_limit}
use Rattle.asyncio.specs.Ranges.{StateFits, AwaiterFits, ValueFits, ErrorFits}
use Rattle.asyncio.specs.States.{pick, is_ready, is_blocked}
use Rattle.machine.specs.Store.{Store, task, object, put_object, put_places, put_queue, set_state, restate, absent, add_log, reached, exited}
use Rattle.machine.specs.Scheduler.{AwaitedGather, as_awaited, make_ready, push_ready, remove_from_ready_queue, remove_task}
use Rattle.machine.specs.Delivery.{Delivery, nobody_woken, deliver_to_task, fill_from, resolve_left, resolve_awaited, resolve_child, fail_awaited, fail_gather, climb, awaited_count}
use Rattle.machine.specs.Delivery.{send_value, climb_value, deliver_awaiter_success, send_error, climb_error, deliver_awaiter_failure}
use Rattle.machine_laws.specs.Views.{Sized}
use Rattle.machine_laws.specs.StoreLaws.{task_put-task, task_put-other, task-fits}
use Rattle.machine_laws.specs.DeliveryLaws.{absurd_some, resolve_sent, fail_sent}
use Rattle.machine_theorems.specs.Soundness.Deliver.{restated_fits}
use Rattle.machine_theorems.specs.Panics.NoPanicLaws.{Activated, ready_activated}

-- ---- one task

-- scheduler.rs:302: a task that is not blocked is not made ready: nothing changes
pub unblocked_kept : (s : Store) (t : ℕ) (x : TaskState) → is_blocked (task s t).state ≡ false → deliver_to_task s t x ≡ nobody_woken s
unfolding deliver_to_task
unblocked_kept s t x e = rw e

-- task t, which delivery d from store s on woke, was blocked and is ready
pub record Woke (s : Store) (d : Delivery) (t : ℕ) : Type 0 where
  pub blocked : is_blocked (task s t).state ≡ true
  pub ready : T (is_ready (task d.store t).state)

-- whom a delivery wakes
pub record Wakes (s : Store) (d : Delivery) : Type 0 where
  pub woke : (t : ℕ) → d.woken ≡ some t → Woke s d t

nobody-wakes : (s u : Store) → Wakes s (nobody_woken u)
unfolding nobody_woken
nobody-wakes s u = record { woke = λ t e. absurd_some e }

task-wakes : (s : Store) (t : ℕ) (x : TaskState) → Sized s → t < task_limit → StateFits x → T (is_ready x) → Wakes s (deliver_to_task s t x)
unfolding deliver_to_task
task-wakes s t x z l f k = by (is_blocked (task s t).state) refl
  where
    row : Task
    row = restate (task s t) x

    there : (task (add_log (make_ready s t x) (reached t)) t).state ≡ x
    there = unfold add_log make_ready push_ready put_queue set_state task restate in
        (ap (λ (y : Task). y.state) (task_put-task s t row z l (restated_fits (task s t) x (task-fits s t) f)))

    by : (b : Bool) → is_blocked (task s t).state ≡ b → Wakes s (pick b (record { store = add_log (make_ready s t x) (reached t); woken = some t }) (nobody_woken s))
    by true e =
        record {
          woke = λ u q. subst (Woke s (record { store = add_log (make_ready s t x) (reached t); woken = some t })) (some-injective t u q)
              (record { blocked = e; ready = subst (λ (y : TaskState). T (is_ready y)) (sym there) k });
        }
    by false e = nobody-wakes s s

-- ---- up the gathers: no task changes on the way

resolve_tasks : (s : Store) (g source : ℕ) (v : Value) (t : ℕ) → task (resolve_child s g source v).store t ≡ task s t
unfolding resolve_child resolve_awaited
resolve_tasks s g source v t = by (as_awaited (object s g))
  where
    left : (b : Bool) (w : AwaitedGather) (m : ℕ) → task (resolve_left b (put_places s (fill_from s.places w.open_places w.first source v 0 w.count).places) g w m).store t ≡ task s t
    left true w m = unfold resolve_left task put_object put_places in refl
    left false w m = unfold resolve_left task put_object put_places in refl

    by : (w : Option AwaitedGather) → task (resolve_awaited s g source v w).store t ≡ task s t
    by none = refl
    by (some w) = left (eqb (fill_from s.places w.open_places w.first source v 0 w.count).open_places 0) w _

fail-tasks : (s : Store) (g : ℕ) (e : Error) (t : ℕ) → task (fail_gather s g e).store t ≡ task s t
unfolding fail_gather fail_awaited
fail-tasks s g e t = by (as_awaited (object s g))
  where
    by : (w : Option AwaitedGather) → task (fail_awaited s g e w).store t ≡ task s t
    by none = refl
    by (some w) = unfold task put_object in refl

climb-wakes : (go : Store → Awaiter → Delivery) (s u : Store) (a : Option Awaiter) → ((t : ℕ) → task u t ≡ task s t)
    → ((b : Awaiter) → a ≡ some b → Wakes u (go u b)) → Wakes s (climb go u a)
unfolding climb
climb-wakes go s u none same h = nobody-wakes s u
climb-wakes go s u (some b) same h =
    record {
      woke = λ t e.
          let w : Woke u (go u b) t = (h b refl).woke t e in
          record { blocked = ap (λ (y : Task). is_blocked y.state) (sym (same t)) ∙ w.blocked; ready = w.ready };
    }

module _ (go : Store → Awaiter → Value → Delivery) (h : (s : Store) (a : Awaiter) (v : Value) → Sized s → AwaiterFits a → ValueFits v → Wakes s (go s a v)) where
  send-value-wakes : (s : Store) (a : Awaiter) (v : Value) → Sized s → AwaiterFits a → ValueFits v → Wakes s (send_value go s a v)
  unfolding send_value
  send-value-wakes s Awaiter.Nobody v z f k = nobody-wakes s s
  send-value-wakes s (Awaiter.Task t) v z f k = task-wakes s t.0 (TaskState.Woken v) z f k tt
  send-value-wakes s (Awaiter.GatherSlot g source) v z f k =
      let r = resolve_sent s g.0 source.0 v z f.0 in
      climb-wakes (λ y a. go y a (Value.List g)) s _ _ (resolve_tasks s g.0 source.0 v) (λ b e. h _ b (Value.List g) r.same.sized (r.fits b e) f.0)

climb_value-wakes : (n : ℕ) (s : Store) (a : Awaiter) (v : Value) → Sized s → AwaiterFits a → ValueFits v → Wakes s (climb_value n s a v)
unfolding climb_value
climb_value-wakes zero s a v z f k = nobody-wakes s s
climb_value-wakes (suc n) s a v z f k = send-value-wakes (λ y b w. climb_value n y b w) (λ y b w. climb_value-wakes n y b w) s a v z f k

-- scheduler.rs:302: a value wakes a task that was blocked, and it is ready then
pub success_wakes : (s : Store) (a : Awaiter) (v : Value) → Sized s → AwaiterFits a → ValueFits v → Wakes s (deliver_awaiter_success s a v)
unfolding deliver_awaiter_success
success_wakes s a v z f k =
    send-value-wakes (λ y b w. climb_value (awaited_count s) y b w) (λ y b w. climb_value-wakes (awaited_count s) y b w) s a v z f k

module _ (go : Store → Awaiter → Error → Delivery) (h : (s : Store) (a : Awaiter) (e : Error) → Sized s → AwaiterFits a → ErrorFits e → Wakes s (go s a e)) where
  send-error-wakes : (s : Store) (a : Awaiter) (e : Error) → Sized s → AwaiterFits a → ErrorFits e → Wakes s (send_error go s a e)
  unfolding send_error
  send-error-wakes s Awaiter.Nobody e z f k = nobody-wakes s s
  send-error-wakes s (Awaiter.Task t) e z f k = task-wakes s t.0 (TaskState.Raised e) z f k tt
  send-error-wakes s (Awaiter.GatherSlot g source) e z f k =
      let r = fail_sent s g.0 e z f.0 in
      climb-wakes (λ y a. go y a e) s _ _ (fail-tasks s g.0 e) (λ b p. h _ b e r.same.sized (r.fits b p) k)

climb_error-wakes : (n : ℕ) (s : Store) (a : Awaiter) (e : Error) → Sized s → AwaiterFits a → ErrorFits e → Wakes s (climb_error n s a e)
unfolding climb_error
climb_error-wakes zero s a e z f k = nobody-wakes s s
climb_error-wakes (suc n) s a e z f k = send-error-wakes (λ y b w. climb_error n y b w) (λ y b w. climb_error-wakes n y b w) s a e z f k

-- and so does an error
pub failure_wakes : (s : Store) (a : Awaiter) (e : Error) → Sized s → AwaiterFits a → ErrorFits e → Wakes s (deliver_awaiter_failure s a e)
unfolding deliver_awaiter_failure
failure_wakes s a e z f k =
    send-error-wakes (λ y b w. climb_error (awaited_count s) y b w) (λ y b w. climb_error-wakes (awaited_count s) y b w) s a e z f k

-- ---- the task that an exit woke is activated

-- scheduler.rs:197, 312: after a completion (the task that ended is gone when its value is delivered), in any store
pub success_activated : (s : Store) (a : Awaiter) (v : Value) → Sized s → AwaiterFits a → ValueFits v → (u : ℕ) → (deliver_awaiter_success s a v).woken ≡ some u
    → Activated (task (remove_from_ready_queue (deliver_awaiter_success s a v).store u) u).state
unfolding remove_from_ready_queue put_queue task
success_activated s a v z f k u e = ready_activated _ ((success_wakes s a v z f k).woke u e).ready

-- scheduler.rs:197, 312: after a failure of task t, which is not blocked: it goes when its error was delivered, and is not the one woken
pub failure_activated : (s : Store) (t : ℕ) (e : Error) → Sized s → ErrorFits e → is_blocked (task s t).state ≡ false → (u : ℕ)
    → (deliver_awaiter_failure s (task s t).awaiter e).woken ≡ some u
    → Activated (task (remove_from_ready_queue (add_log (remove_task (deliver_awaiter_failure s (task s t).awaiter e).store t) (exited t)) u) u).state
unfolding remove_from_ready_queue remove_task add_log put_queue task
failure_activated s t e z k n u q =
    let d : Delivery = deliver_awaiter_failure s (task s t).awaiter e in
    let w : Woke s d u = (failure_wakes s (task s t).awaiter e z (task-fits s t).awaiter_fits k).woke u q in
    let ne : u ≡ t → ⊥ = λ p. subst T (sym w.blocked ∙ (ap (λ (j : ℕ). is_blocked (task s j).state) p ∙ n)) tt in
    subst (λ (y : Task). Activated y.state) (sym (task_put-other d.store t u absent ne)) (ready_activated _ w.ready)
