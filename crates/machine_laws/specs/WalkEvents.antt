-- What every single write keeps, every event keeps: the walk (Walk) event by event, with one field for each write.
use Rattle.std.specs.Prelude.{◌≡◌, Bool}
use Rattle.std.proofs.Math.Path.{refl}
use Rattle.std.proofs.Common.{◌∙◌, arith}
use Rattle.std.proofs.Math.Bool.{true, false}
use mathlib.Core.List.{List, [], ◌∷◌}
use Rattle.std.proofs.Math.Option.{some}
use Prim.Native.Nat.{ℕ, ◌+◌, ◌<◌}
use Rattle.std.proofs.Math.Dec.{eqb}
use borrow.Author.Tests.{eqb-true, leb-false}
use Rattle.asyncio.specs.declared.Value.{Value}
use Rattle.asyncio.specs.declared.Error.{Error}
use Rattle.std.specs.Prelude.{None}
use Rattle.asyncio.specs.declared.TaskState.{TaskState}
use Rattle.asyncio.specs.declared.ExternalFutureState.{ExternalFutureState}
use Rattle.asyncio.specs.declared.Object.{Object}
use Rattle.asyncio.specs.Limits.{object_limit}
use Rattle.asyncio.specs.Numbers.{heap_id}
use Rattle.asyncio.specs.RangeLaws.{pick_has}
use Rattle.asyncio.specs.States.{pick}
use Rattle.machine.specs.Store.{Store, task, object, header, put_object, put_place, add_log, add_object, set_state, set_calls, blocked, exited, forget}
use Rattle.machine.specs.Scheduler.{PendingExternal, as_pending, remove_task}
use Rattle.machine.specs.Events.{completed, handle_task_completion, make_coroutine, make_pending, make_settled, put_items, make_gather}
use Rattle.machine.specs.Machine.{Event, Answer, Step, switched, answer_await, end_main, task_completes, task_fails, runner, resume_with_resolved_futures}
use Rattle.machine.specs.Machine.{unmade, first_refusal, refusals, refusal, accept, decide, step, after}
use Rattle.machine_laws.specs.StoreLaws.{task-fits, header-fits}
use Rattle.machine_laws.specs.SoundLaws.{pass, running-rest, refusal-rest, refusal-forget}
use Rattle.machine_laws.specs.Walk.{Commits, Closed, await-kept, resume-kept, fail-kept, completion_kept, results-kept, cancel-kept, cleanup-kept}

-- K is kept by each write of an event but the count of calls: those of a commit, those of deliveries and switches, and what events write themselves
pub record Writes (K : Store → Type 0) : Type 0 where
  pub commits : Commits K
  pub closed : Closed K
  pub blocks : (s : Store) (t o : ℕ) → o < object_limit → K s → K (add_log (set_state s t (TaskState.Blocked (heap_id o))) (blocked t))
  pub settles : (s : Store) (o : ℕ) (p : PendingExternal) (y : ExternalFutureState) → o < object_limit → as_pending (object s o) ≡ some p → K s
      → K (put_object s o (Object.ExternalFuture p.call y))
  pub completes : (s : Store) (o : ℕ) → o < object_limit → K s → K (put_object s o (completed (object s o)))
  pub adds : (s : Store) (x : Object) (n : ℕ) → K s → K (add_object s x n)
  pub names : (s : Store) (p o : ℕ) → K s → K (put_place s p (record { item = heap_id o; result = None }))

-- an event that hands out a call number
unfoldable pub HandsOut : Event → Type 0
HandsOut (Event.coroutine f) = ⊥
HandsOut Event.call = Unit {0}
HandsOut (Event.pending c r) = ⊥
HandsOut (Event.settled v) = Unit {0}
HandsOut (Event.gather os) = ⊥
HandsOut (Event.await o) = ⊥
HandsOut (Event.complete v) = ⊥
HandsOut (Event.fail n) = ⊥
HandsOut (Event.results rs) = ⊥
HandsOut Event.resume = ⊥
HandsOut (Event.cancel t) = ⊥
HandsOut (Event.show o) = ⊥
HandsOut Event.eager = ⊥

-- what is awaited is an object
pub await_low : (s : Store) (o : ℕ) → first_refusal (refusals s (Event.await o)) ≡ 0 → o < object_limit
unfolding refusals unmade
await_low s o r = omega (arith, leb-false (header s).made o (pass 4 (unmade s o) [] (running-rest s _ r)).0, (header-fits s).made_fits)

module _ (K : Store → Type 0) (kept : Writes K) where
  abbrev StepKept : Step → Type 0
  StepKept x = K x.store

  items_kept : (os : List ℕ) (s : Store) (p : ℕ) → K s → K (put_items s p os)
  unfolding put_items
  items_kept [] s p k = k
  items_kept (o ∷ os) s p k = items_kept os _ (p + 1) (kept.names s p o k)

  ends-kept : (s : Store) (a : Answer) → K s → StepKept (end_main s a)
  unfolding end_main
  ends-kept s a k = cleanup-kept K kept.closed s k

  completes-kept : (s : Store) (t : ℕ) (v : Value) → K s → StepKept (switched (handle_task_completion s t v))
  unfolding switched handle_task_completion
  completes-kept s t v k =
      let c : ℕ = (task s t).coroutine.0 in
      completion_kept K kept.closed (add_log (remove_task (put_object s c (completed (object s c))) t) (exited t)) (task s t).awaiter v (task-fits s t).awaiter_fits
      (kept.closed.exits _ t (kept.completes s c (task-fits s t).coroutine_fits k))

  resumes-kept : (s : Store) → K s → StepKept (resume_with_resolved_futures s)
  unfolding resume_with_resolved_futures switched
  resumes-kept s k = pick_has StepKept (eqb s.queue.len 0) k (resume-kept K kept.closed s k)

  -- an event that no refusal meets; where it hands out a number, K is kept by the count too
  pub accept-kept : (s : Store) (e : Event) → (HandsOut e → (u : Store) (n : ℕ) → K u → K (set_calls u n)) → first_refusal (refusals s e) ≡ 0 → K s
      → K (accept s e).store
  unfolding accept make_coroutine make_pending make_settled make_gather answer_await task_completes task_fails switched HandsOut
  accept-kept s (Event.coroutine f) h r k = kept.adds s _ 0 k
  accept-kept s Event.call h r k = h tt s _ k
  accept-kept s (Event.pending c x) h r k = kept.adds s _ 0 k
  accept-kept s (Event.settled v) h r k = kept.adds _ _ 0 (h tt s _ k)
  accept-kept s (Event.gather os) h r k = kept.adds _ _ _ (items_kept os s _ k)
  accept-kept s (Event.await o) h r k =
      let low : o < object_limit = await_low s o r in
      await-kept K K kept.commits kept.closed (λ u x. x) (runner (header s).moment) o low (λ u x. kept.blocks u (runner (header s).moment) o low x) s k
  accept-kept s (Event.complete v) h r k =
      pick_has StepKept (eqb (runner (header s).moment) 0) (ends-kept s (Answer.finished v) k) (completes-kept s (runner (header s).moment) v k)
  accept-kept s (Event.fail n) h r k =
      pick_has StepKept (eqb (runner (header s).moment) 0) (ends-kept s (Answer.finished_error (Error.Script n)) k)
      (fail-kept K kept.closed s (runner (header s).moment) (Error.Script n) k)
  accept-kept s (Event.results rs) h r k = results-kept K kept.closed kept.settles rs s k
  accept-kept s Event.resume h r k = resumes-kept s k
  accept-kept s (Event.cancel t) h r k = cancel-kept K kept.closed s t k
  accept-kept s (Event.show o) h r k = k
  accept-kept s Event.eager h r k = k

  module _ (numbers : (s : Store) (n : ℕ) → K s → K (set_calls s n)) (forgets : (s : Store) → K s → K (forget s)) where
    -- Every event keeps what every write keeps.
    pub step_kept : (s : Store) (e : Event) → K s → K (step s e).store
    unfolding step decide
    step_kept s e k = by (eqb (refusal s e) 0) refl
      where
        by : (b : Bool) → eqb (refusal s e) 0 ≡ b → StepKept (pick b (accept (forget s) e) (record { store = forget s; answer = Answer.refused (refusal s e) }))
        by true q = accept-kept (forget s) e (λ x. numbers) (refusal-rest (forget s) e (refusal-forget s e ∙ eqb-true (refusal s e) 0 q)) (forgets s k)
        by false q = forgets s k

    -- So does every session.
    pub session-kept : (es : List Event) (s : Store) → K s → K (after s es)
    unfolding after
    session-kept [] s k = k
    session-kept (e ∷ es) s k = session-kept es _ (step_kept s e k)
