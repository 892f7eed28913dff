-- Each event, one step and a session (Machine) with the Rust's panics in them.
use Rattle.std.specs.Prelude.{ℕ, ◌+◌, List, [], ◌∷◌, eqb}
use Rattle.asyncio.specs.declared.Value.{Value}
use Rattle.asyncio.specs.declared.Error.{Error}
use Rattle.asyncio.specs.Options.{OptionValue}
use Rattle.asyncio.specs.declared.Moment.{Moment}
use Rattle.asyncio.specs.States.{pick}
use Rattle.machine.specs.Store.{Store, object, header, set_calls, forget}
use Rattle.machine.specs.Scheduler.{is_some, pending_external, pending_call_ids, cancel_task}
use Rattle.machine.specs.Events.{resume_next, wake_in_order, make_coroutine, make_pending, make_settled, make_gather}
use Rattle.machine.specs.Machine.{Event, Answer, made, called, done, finished, finished_error, shows, is_eager, refused, Step, refusal, shown, can_await_eagerly, switched, answer_await, answer_cancel, end_main, repeat_wait}
use Rattle.machine_theorems.specs.Panics.Panic.{Panics}
use Rattle.machine_theorems.specs.Panics.PanickingDelivery.{results_or_panic}
use Rattle.machine_theorems.specs.Panics.PanickingEvents.{fails_or_panic, activate_or_panic, await_or_panic, completes_or_panic}

module _ (panic : Panics) where
  -- `runner`: there is a current task (async_exec.rs:60, 426, 475)
  unfoldable pub current_or_panic : Store → Moment → (ℕ → Step) → Step
  current_or_panic s (Moment.Running t) f = f t.0
  current_or_panic s Moment.Waiting f = panic.step s
  current_or_panic s Moment.Ended f = panic.step s

  -- `task_completes`
  unfoldable pub task_completes_or_panic : Store → ℕ → Value → Step
  task_completes_or_panic s t v = pick (eqb t 0) (end_main s (finished v)) (switched (completes_or_panic panic s t v))

  -- `task_fails`
  unfoldable pub task_fails_or_panic : Store → ℕ → Error → Step
  task_fails_or_panic s t e = pick (eqb t 0) (end_main s (finished_error e)) (switched (fails_or_panic panic (activate_or_panic panic) s t e))

  -- `resume_with_resolved_futures`
  unfoldable pub resume_or_panic : Store → Step
  resume_or_panic s =
      pick (eqb s.queue.len 0) (record { store = s; answer = repeat_wait (pending_call_ids s) }) (switched (resume_next (activate_or_panic panic) s))

  -- `make_pending`: the call is not registered yet (scheduler.rs:217)
  unfoldable pub pending_made_or_panic : Store → ℕ → OptionValue → Step
  pending_made_or_panic s c r = pick (is_some (pending_external s c)) (panic.step s) (record { store = make_pending s c r; answer = made (header s).made })

  -- `accept`; no place of docs/PANICS.md lies in the events that are given as the machine has them
  unfoldable pub accept_or_panic : Store → Event → Step
  accept_or_panic s (Event.coroutine f) = record { store = make_coroutine s f; answer = made (header s).made }
  accept_or_panic s Event.call = record { store = set_calls s ((header s).calls + 1); answer = called (header s).calls }
  accept_or_panic s (Event.pending c r) = pending_made_or_panic s c r
  accept_or_panic s (Event.settled v) = record { store = make_settled s v; answer = made (header s).made }
  accept_or_panic s (Event.gather os) = record { store = make_gather s os; answer = made (header s).made }
  accept_or_panic s (Event.await o) = current_or_panic s (header s).moment (λ t. answer_await (await_or_panic panic s t o))
  accept_or_panic s (Event.complete v) = current_or_panic s (header s).moment (λ t. task_completes_or_panic s t v)
  accept_or_panic s (Event.fail n) = current_or_panic s (header s).moment (λ t. task_fails_or_panic s t (Error.Script n))
  accept_or_panic s (Event.results rs) = record { store = wake_in_order s (results_or_panic panic s rs); answer = done }
  accept_or_panic s Event.resume = resume_or_panic s
  accept_or_panic s (Event.cancel t) = answer_cancel s (cancel_task s t)
  accept_or_panic s (Event.show o) = record { store = s; answer = shows (shown s (object s o)) }
  accept_or_panic s Event.eager = record { store = s; answer = is_eager (can_await_eagerly s) }

  -- `decide`
  unfoldable pub decide_or_panic : ℕ → Store → Event → Step
  decide_or_panic n s e = pick (eqb n 0) (accept_or_panic s e) (record { store = s; answer = refused n })

  -- `step`: one event, refused or done
  unfoldable pub step_or_panic : Store → Event → Step
  step_or_panic s e = decide_or_panic (refusal s e) (forget s) e

  -- `after`: the store after a list of events
  unfoldable pub after_or_panic : Store → List Event → Store
  after_or_panic s [] = s
  after_or_panic s (e ∷ es) = after_or_panic (step_or_panic s e).store es

  -- `answers`: the answers to a list of events
  unfoldable pub answers_or_panic : Store → List Event → List Answer
  answers_or_panic s [] = []
  answers_or_panic s (e ∷ es) = let x : Step = step_or_panic s e in x.answer ∷ answers_or_panic x.store es
