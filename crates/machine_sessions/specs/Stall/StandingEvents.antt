-- Every event but cancel leaves each ready task in the queue and main alive until the end, and where its answer is a wait or stalled, the moment is waiting
-- and the queue is empty.
use Rattle.std.specs.Prelude.{◌≡◌, Bool, true, false, T, eqb}
use Rattle.std.proofs.Math.Path.{refl}
use Rattle.std.proofs.Common.{sym, ap, subst, true≢false, arith, eqb-true}
use mathlib.Core.List.{List, []}
use Rattle.std.proofs.Math.Option.{some, some-injective}
use Prim.Native.Nat.{ℕ, suc, ◌≤◌}
use Rattle.std.proofs.Math.Nat.{not-suc-le-zero}
use Rattle.std.proofs.Math.ListN.{take}
use Rattle.asyncio.specs.declared.Value.{Value}
use Rattle.asyncio.specs.declared.Error.{Error}
use Rattle.asyncio.specs.declared.TaskState.{TaskState}
use Rattle.asyncio.specs.declared.Awaiter.{Awaiter}
use Rattle.asyncio.specs.declared.Object.{Object}
use Rattle.asyncio.specs.declared.Moment.{Moment}
use Rattle.asyncio.specs.declared.Header.{Header}
use Rattle.asyncio.specs.Numbers.{task_id}
use Rattle.asyncio.specs.Ranges.{ErrorFits}
use Rattle.asyncio.specs.States.{pick, is_live, is_ready, is_blocked}
use Rattle.asyncio.specs.Kinds.{kind, is_completed}
use Rattle.queue.specs.Queue.{entries, order_from}
use Rattle.queue.proofs.OrderLaws.{order_occurrences}
use Rattle.machine.specs.Store.{Store, view, task, object, header, put_object, put_queue, add_log, exited}
use Rattle.machine.specs.Scheduler.{pending_call_ids, remove_from_ready_queue, remove_task}
use Rattle.machine.specs.Delivery.{deliver_awaiter_success}
use Rattle.machine.specs.Events.{waits, Switched, Awaited, Result, activate, resume_next, handle_task_completion, handle_task_failure, completed, apply_future_results, wake_in_order}
use Rattle.machine.specs.Machine.{Event, Step, switched, answer_await, runner, repeat_wait, resume_with_resolved_futures}
use Rattle.machine.specs.Sound.{value_known, runs_now}
use Rattle.machine.specs.History.{tells}
use Rattle.machine_laws.specs.Facts.{Nothing}
use Rattle.machine_laws.specs.StoreLaws.{header-fits, header_put-object, task-fits, sized-put_object}
use Rattle.machine_laws.specs.MakingLaws.{value-fits}
use Rattle.machine_theorems.specs.Soundness.Stores.{idle, SoundDuring, SoundStore, during_of}
use Rattle.machine_theorems.specs.Soundness.Fill.{DeliveringValue}
use Rattle.machine_theorems.specs.Soundness.Exits.{runner_low, runner-runs, others_commits_none, completion_delivering, completion_delivery_ends, only_changes_of}
use Rattle.machine_theorems.specs.Soundness.Results.{AllApply}
use Rattle.machine_theorems.specs.Panics.NoPanicLaws.{Activated, starts, goes_on, raises_it}
use Rattle.machine_theorems.specs.Panics.NoPanicWoken.{success_activated}
use Rattle.machine.specs.DemandThree.{is_stalled}
use Rattle.machine_sessions.specs.Stall.Effects.{success_effect}
use Rattle.machine_sessions.specs.Stall.ResultsWalk.{delivered-batch}
use Rattle.machine_sessions.specs.Stall.Standing.{Stands, stands_like, stands_queue, delivered_stands, Right, removed_stands, resume-right, leave_right, fail-right}

-- waiting, with nothing ready
abbrev pub OnlyChanges : Store → Type 0
OnlyChanges u = ((header u).moment ≡ Moment.Waiting) × (entries u.queue ≡ [])

-- main ends the session
unfoldable pub MainEnds : Store → Event → Type 0
MainEnds s (Event.coroutine f) = ⊥
MainEnds s Event.call = ⊥
MainEnds s (Event.pending c r) = ⊥
MainEnds s (Event.settled v) = ⊥
MainEnds s (Event.gather os) = ⊥
MainEnds s (Event.await o) = ⊥
MainEnds s (Event.complete v) = runner (header s).moment ≡ 0
MainEnds s (Event.fail n) = runner (header s).moment ≡ 0
MainEnds s (Event.results rs) = ⊥
MainEnds s Event.resume = ⊥
MainEnds s (Event.cancel t) = ⊥
MainEnds s (Event.show o) = ⊥
MainEnds s Event.eager = ⊥

-- what an event leaves, if main does not end there (E)
pub record StepRight (E : Type 0) (x : Step) : Type 0 where
  pub stood : (E → ⊥) → Stands Nothing x.store
  pub waits_idle : (cs : List ℕ) → (tells x.answer).control ≡ some (waits cs) → OnlyChanges x.store
  pub stalls_idle : is_stalled x.answer ≡ true → OnlyChanges x.store

pub switched-right : {E : Type 0} (x : Switched) → Right x → StepRight E (switched x)
unfolding switched tells is_stalled
switched-right x k =
    record { stood = λ e. k.stood; waits_idle = λ cs q. k.waits_idle cs (some-injective x.control (waits cs) q); stalls_idle = λ q. absurd (true≢false (sym q)) }

pub awaited-right : {E : Type 0} (x : Awaited) → Right (record { store = x.store; control = x.control }) → StepRight E (answer_await x)
unfolding answer_await tells is_stalled
awaited-right x k =
    record { stood = λ e. k.stood; waits_idle = λ cs q. k.waits_idle cs (some-injective x.control (waits cs) q); stalls_idle = λ q. absurd (true≢false (sym q)) }

some_exempt : {E : ℕ → Type 0} (s : Store) → Stands Nothing s → Stands E s
some_exempt s k = record { main = k.main; stands = λ t l r n. k.stands t l r (λ z. z) }

pub row_stands : {E : ℕ → Type 0} (s : Store) (o : ℕ) (x : Object) → Stands E s → Stands E (put_object s o x)
row_stands s o x k = stands_like s (put_object s o x) (unfold put_object in refl) (unfold put_object in refl) (ap (λ (y : Header). y.next) (header_put-object s o x)) k

activated_ready : (x : TaskState) → Activated x → is_ready x ≡ true
activated_ready _ starts = refl
activated_ready _ (goes_on v) = refl
activated_ready _ (raises_it e) = refl

module _ (s : Store) (h : SoundStore s) (st : Stands Nothing s) where
  abbrev D0 : ℕ → Type 0
  D0 o = T (is_completed (kind (object s o)))

  -- ---- the end of a task

  pub complete-right : (t : ℕ) (v : Value) → (header s).moment ≡ Moment.Running (task_id (suc t)) → T (value_known (header s).made (object s) v) → Right (handle_task_completion s (suc t) v)
  unfolding handle_task_completion view
  complete-right t v m k =
      leave_right D0 (header s) (deliver_awaiter_success left a v) (completion_delivery_ends s t v h m k)
      (λ u e. activated_ready _ (subst Activated (queue-row u)
      (success_activated left a v delivers_on.during.kept.memory.sized (task-fits s (suc t)).awaiter_fits (value-fits (header s).made (object s) v h.facts.but.fits.made_fits k) u e)))
      (delivered_stands left delivers_on.during (deliver_awaiter_success left a v) (success_effect left a v delivers_on.during.kept.memory.sized (task-fits s (suc t)).awaiter_fits)
      (removed_stands done (suc t) (exited (suc t)) (sized-put_object s o _ h.memory.sized) (unfold put_object in h.memory.ids) (unfold put_object in h.memory.words_right.queue_short)
      (omega (arith, runner_low s (suc t) h m, (header-fits s).next_fits)) (λ q. not-suc-le-zero {n = 0} (omega arith)) (row_stands s o (completed (object s o)) (some_exempt s st))))
    where
      o : ℕ
      o = (task s (suc t)).coroutine.0

      a : Awaiter
      a = (task s (suc t)).awaiter

      done : Store
      done = put_object s o (completed (object s o))

      left : Store
      left = add_log (remove_task done (suc t)) (exited (suc t))

      delivers_on : DeliveringValue idle D0 (header s) o v left a
      delivers_on = completion_delivering s t v h m k

      queue-row : (u : ℕ) → (task (remove_from_ready_queue (deliver_awaiter_success left a v).store u) u).state ≡ (task (deliver_awaiter_success left a v).store u).state
      queue-row u = unfold remove_from_ready_queue put_queue task in refl

  pub failed-right : (t : ℕ) (e : Error) → (header s).moment ≡ Moment.Running (task_id (suc t)) → ErrorFits e → Right (handle_task_failure activate s (suc t) e)
  failed-right t e m k =
      fail-right D0 (header s) s t e (runs_now (header s).moment) k (runner_low s (suc t) h m) (ap is_live (runner-runs s (suc t) h m)) (ap is_blocked (runner-runs s (suc t) h m))
      (others_commits_none s (suc t) h m) (during_of s h) (some_exempt s st)

  -- ---- resume

  pub resume-step : {E : Type 0} → (header s).moment ≡ Moment.Waiting → StepRight E (resume_with_resolved_futures s)
  unfolding resume_with_resolved_futures
  resume-step {E} m = by (eqb s.queue.len 0) refl
    where
      none-there : s.queue.len ≡ 0 → entries s.queue ≡ []
      none-there e = unfold entries in (ap (λ (n : ℕ). take n s.queue.ids) e)

      by : (b : Bool) → eqb s.queue.len 0 ≡ b → StepRight E (pick b (record { store = s; answer = repeat_wait (pending_call_ids s) }) (switched (resume_next activate s)))
      by true e =
          record {
            stood = λ x. st;
            waits_idle = λ cs q. (m, none-there (eqb-true s.queue.len 0 e));
            stalls_idle = λ q. (m, none-there (eqb-true s.queue.len 0 e));
          }
      by false e = switched-right _ (resume-right D0 (header s) s (only_changes_of s h m) st)

-- ---- results

pub results_stand : {r : ℕ → Bool} {D : ℕ → Type 0} {hd : Header} (xs : List Result) (s : Store) → AllApply hd.made D xs → SoundDuring Nothing r D hd s → Stands Nothing s → Stands Nothing (apply_future_results s xs)
results_stand xs s a h st = delivered-batch (Stands Nothing) (λ u o x k. row_stands u o x k) (λ P r D hd u m d e k. delivered_stands u m d e k) xs s a h st

-- whom they woke in task order
pub ordered_stand : {r : ℕ → Bool} {D : ℕ → Type 0} {hd : Header} (s u : Store) → SoundDuring Nothing r D hd u → Stands Nothing u → Stands Nothing (wake_in_order s u)
unfolding wake_in_order
ordered_stand s u h st =
    stands_queue u (order_from u.queue s.queue.len) st.main
    (λ t l r e. subst (λ (n : ℕ). 1 ≤ n) (sym (order_occurrences u.queue s.queue.len h.kept.memory.ids h.kept.memory.words_right.queue_short t)) (st.stands t l r e))
