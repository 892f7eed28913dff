-- The machine: events, answers, the table of refusals, and one step of a session.
-- Refusal 1, of the lengths of the lent slices, stands before the machine; 11 is the driver's.
use Rattle.std.specs.Prelude.{ℕ, zero, suc, ◌+◌, ◌-◌, ◌/◌, ◌%◌, Bool, true, false, not, ◌&&◌, ◌||◌, List, [], ◌∷◌, length, eqb, ltb, leb}
use Rattle.std.proofs.Math.Option.{Option, none, some}
use Rattle.asyncio.specs.declared.HeapId.{HeapId}
use Rattle.asyncio.specs.declared.TaskId.{TaskId}
use Rattle.asyncio.specs.declared.Value.{Value}
use Rattle.asyncio.specs.declared.Error.{Error}
use Rattle.asyncio.specs.Options.{OptionValue}
use Rattle.std.specs.Prelude.{None, Some}
use Rattle.asyncio.specs.declared.CoroutineState.{CoroutineState}
use Rattle.asyncio.specs.declared.ExternalFutureState.{ExternalFutureState}
use Rattle.asyncio.specs.declared.GatherState.{GatherState}
use Rattle.asyncio.specs.declared.Object.{Object}
use Rattle.asyncio.specs.declared.Place.{Place}
use Rattle.asyncio.specs.declared.Moment.{Moment}
use Rattle.asyncio.specs.declared.Header.{Header}
use Rattle.asyncio.specs.States.{pick}
use Rattle.asyncio.specs.Numbers.{heap_id}
use Rattle.asyncio.specs.Limits.{object_limit, item_limit, place_limit, call_limit, u32_limit, result_limit}
use Rattle.machine.specs.Store.{Store, object, place, header, set_calls, forget}
use Rattle.machine.specs.Scheduler.{live, is_some, bit, pending_external, pending_call_ids, cancel_task, cleanup}
use Rattle.machine.specs.Sound.{sound, is_ended, value_known, option_known}
use Rattle.machine.specs.Events.{Control, runs, waits, Switched, Awaited, Result, exec_get_awaitable, handle_task_completion, handle_task_failure, activate, resume_next, apply_future_results, wake_in_order, make_coroutine, make_pending, make_settled, make_gather}

-- The events of document 01, kinds 1 to 11 of its records, and the reads, kinds 12 and 13.
pub data Event : Type 0 where
  -- a coroutine of a function is made
  coroutine : ℕ → Event
  -- a call number is handed out
  call : Event
  -- an external of a call is made pending, with a stored result or none
  pending : ℕ → OptionValue → Event
  -- an external that has its value already
  settled : Value → Event
  -- a gather of objects
  gather : List ℕ → Event
  -- the running task awaits an object
  await : ℕ → Event
  -- it completes with a value
  complete : Value → Event
  -- it fails with the error script n
  fail : ℕ → Event
  -- the host answers calls
  results : List Result → Event
  -- the host hands control back
  resume : Event
  -- the operator cancels a task
  cancel : ℕ → Event
  -- a read of an object
  show : ℕ → Event
  -- a read: may the host answer a call at once?
  eager : Event

-- What a read of an object shows; a place is open, or has a value.
pub data Shown : Type 0 where
  a_coroutine : CoroutineState → ℕ → Shown
  an_external_pending : Shown
  an_external_resolved : Value → Shown
  an_external_failed : Error → Shown
  a_gather_pending : Shown
  a_gather_awaited : List (Option Value) → Shown
  a_gather_completed : List (Option Value) → Shown
  a_gather_failed : Error → Shown
  nothing : Shown

-- The answers: document 01's words and their fields.
pub data Answer : Type 0 where
  made : ℕ → Answer
  called : ℕ → Answer
  control : Control → Answer
  awaited : Control → ℕ → Answer
  done : Answer
  -- a task was cancelled; by so many entries the ready queue is shorter after the removals (document 02, No. 8; it prints as done and that number)
  cancelled : ℕ → Answer
  stalled : Answer
  finished : Value → Answer
  finished_error : Error → Answer
  shows : Shown → Answer
  is_eager : Bool → Answer
  refused : ℕ → Answer

-- The store after an event, and the answer.
pub record Step : Type 0 where
  pub store : Store
  pub answer : Answer

-- ---- the table of refusals. A check is its number and the test that it meets the event.

-- the moment is running
unfoldable pub is_run : Moment → Bool
is_run (Moment.Running t) = true
is_run Moment.Waiting = false
is_run Moment.Ended = false

-- moments: an event of running, of waiting, of both; a read has none.

-- of running
unfoldable pub in_running : Store → List (ℕ × Bool) → List (ℕ × Bool)
in_running s rs = (3, is_ended (header s).moment) ∷ (4, not (is_run (header s).moment)) ∷ rs

-- of waiting
unfoldable pub in_waiting : Store → List (ℕ × Bool) → List (ℕ × Bool)
in_waiting s rs = (3, is_ended (header s).moment) ∷ (4, is_run (header s).moment) ∷ rs

-- of both
unfoldable pub in_both : Store → List (ℕ × Bool) → List (ℕ × Bool)
in_both s rs = (3, is_ended (header s).moment) ∷ rs

-- object o is not made
unfoldable pub unmade : Store → ℕ → Bool
unmade s o = leb (header s).made o

-- one passes
unfoldable pub any_of : {A : Type 0} → (A → Bool) → List A → Bool
any_of p [] = false
any_of p (x ∷ xs) = p x || any_of p xs

-- a returned list of a gather not completed
unfoldable pub result_unknown : Store → Result → Bool
result_unknown s r = eqb r.kind 0 && eqb r.tag 1 && not (value_known (header s).made (object s) (Value.List (heap_id r.number)))

-- a kind above 4, a tag above 1, an error number of 2^32 or more
unfoldable pub bad_result : Result → Bool
bad_result r = ltb 4 r.kind || ltb 1 r.tag || (eqb r.kind 1 && leb u32_limit r.number)

-- 256 objects are made
unfoldable pub full : Store → Bool
full s = leb object_limit (header s).made

-- numbers 0 to 4,294,967,294 all handed out
unfoldable pub no_number : Store → Bool
no_number s = leb call_limit (header s).calls

-- the checks of each event, in the order of the table
unfoldable pub refusals : Store → Event → List (ℕ × Bool)
refusals s (coroutine f) = in_running s ((7, full s) ∷ [])
refusals s call = in_running s ((8, no_number s) ∷ [])
refusals s (pending c r) =
    in_running s ((5, leb (header s).calls c || not (option_known (header s).made (object s) r)) ∷ (6, is_some (pending_external s c)) ∷ (7, full s) ∷ [])
refusals s (settled v) = in_running s ((5, not (value_known (header s).made (object s) v)) ∷ (7, full s) ∷ (8, no_number s) ∷ [])
refusals s (gather os) =
    in_running s ((5, any_of (unmade s) os) ∷ (7, full s || ltb item_limit (length os) || ltb place_limit ((header s).used + length os)) ∷ [])
refusals s (await o) = in_running s ((5, unmade s o) ∷ [])
refusals s (complete v) = in_running s ((5, not (value_known (header s).made (object s) v)) ∷ [])
refusals s (fail n) = in_running s []
refusals s (results rs) = in_both s ((5, any_of (result_unknown s) rs) ∷ (10, ltb result_limit (length rs) || any_of bad_result rs) ∷ [])
refusals s resume = in_waiting s []
refusals s (cancel t) = in_waiting s ((5, not (live s t)) ∷ (9, eqb t 0) ∷ [])
refusals s (show o) = (5, unmade s o) ∷ []
refusals s eager = []

-- the first check that holds, 0 if none does
unfoldable pub first_refusal : List (ℕ × Bool) → ℕ
first_refusal [] = 0
first_refusal (r ∷ rs) = pick r.1 r.0 (first_refusal rs)

-- the number of the first check that meets the event, 0 if none does
unfoldable pub refusal : Store → Event → ℕ
refusal s e = first_refusal ((2, not (sound s)) ∷ refusals s e)

-- ---- reads

-- open, or the value
unfoldable pub slot_value : Bool → OptionValue → Option Value
slot_value true x = none
slot_value false None = none
slot_value false (Some v) = some v

-- n places from p on, with the open ones
unfoldable pub show_places : Store → ℕ → ℕ → ℕ → ℕ → List (Option Value)
show_places s f m i zero = []
show_places s f m i (suc n) = slot_value (bit m i) (place s (f + i)).result ∷ show_places s f m (i + 1) n

-- what a read of the object shows
unfoldable pub shown : Store → Object → Shown
shown s Object.Unmade = nothing
shown s (Object.Coroutine f x) = a_coroutine x f
shown s (Object.ExternalFuture c (ExternalFutureState.Pending a r)) = an_external_pending
shown s (Object.ExternalFuture c (ExternalFutureState.Resolved v)) = an_external_resolved v
shown s (Object.ExternalFuture c (ExternalFutureState.Failed e)) = an_external_failed e
shown s (Object.GatherFuture f n GatherState.Pending) = a_gather_pending
shown s (Object.GatherFuture f n (GatherState.Awaited a m)) = a_gather_awaited (show_places s f m 0 n)
shown s (Object.GatherFuture f n GatherState.Completed) = a_gather_completed (show_places s f 0 0 n)
shown s (Object.GatherFuture f n (GatherState.Failed e)) = a_gather_failed e

-- none
unfoldable pub is_empty : List ℕ → Bool
is_empty [] = true
is_empty (x ∷ xs) = false

-- nothing is ready and no call is pending; after the session's end none is
unfoldable pub can_await_eagerly : Store → Bool
can_await_eagerly s = eqb s.queue.len 0 && (is_ended (header s).moment || is_empty (pending_call_ids s))

-- ---- an event that no refusal meets

-- the answer is who has control
unfoldable pub switched : Switched → Step
switched x = record { store = x.store; answer = control x.control }

-- an await's answer carries its steps
unfoldable pub answer_await : Awaited → Step
answer_await x = record { store = x.store; answer = awaited x.control x.steps }

-- main ends the session
unfoldable pub end_main : Store → Answer → Step
end_main s a = record { store = cleanup s; answer = a }

-- main's end is the session's
unfoldable pub task_completes : Store → ℕ → Value → Step
task_completes s t v = pick (eqb t 0) (end_main s (finished v)) (switched (handle_task_completion s t v))

-- the same with an error
unfoldable pub task_fails : Store → ℕ → Error → Step
task_fails s t e = pick (eqb t 0) (end_main s (finished_error e)) (switched (handle_task_failure activate s t e))

-- how many entries the ready queue has lost: its length in s minus its length in u
unfoldable pub entries_lost : Store → Store → ℕ
entries_lost s u = s.queue.len - u.queue.len

-- a cancel's answer carries that number; u is the store after the removals
abbrev pub answer_cancel : Store → Store → Step
answer_cancel s u = record { store = u; answer = cancelled (entries_lost s u) }

-- the running task; in another moment no event asks
unfoldable pub runner : Moment → ℕ
runner (Moment.Running t) = t.0
runner Moment.Waiting = 0
runner Moment.Ended = 0

-- nothing ready: the wait is repeated, or no call is pending
unfoldable pub repeat_wait : List ℕ → Answer
repeat_wait [] = stalled
repeat_wait (c ∷ cs) = control (waits (c ∷ cs))

-- The next ready task runs on; nothing ready changes nothing.
unfoldable pub resume_with_resolved_futures : Store → Step
resume_with_resolved_futures s =
    pick (eqb s.queue.len 0) (record { store = s; answer = repeat_wait (pending_call_ids s) }) (switched (resume_next activate s))

-- Each event.
unfoldable pub accept : Store → Event → Step
accept s (coroutine f) = record { store = make_coroutine s f; answer = made (header s).made }
accept s call = record { store = set_calls s ((header s).calls + 1); answer = called (header s).calls }
accept s (pending c r) = record { store = make_pending s c r; answer = made (header s).made }
accept s (settled v) = record { store = make_settled s v; answer = made (header s).made }
accept s (gather os) = record { store = make_gather s os; answer = made (header s).made }
accept s (await o) = answer_await (exec_get_awaitable s (runner (header s).moment) o)
accept s (complete v) = task_completes s (runner (header s).moment) v
accept s (fail n) = task_fails s (runner (header s).moment) (Error.Script n)
accept s (results rs) = record { store = wake_in_order s (apply_future_results s rs); answer = done }
accept s resume = resume_with_resolved_futures s
accept s (cancel t) = answer_cancel s (cancel_task s t)
accept s (show o) = record { store = s; answer = shows (shown s (object s o)) }
accept s eager = record { store = s; answer = is_eager (can_await_eagerly s) }

-- ---- one step, and a session

-- refused: the store as it was
unfoldable pub decide : ℕ → Store → Event → Step
decide n s e = pick (eqb n 0) (accept s e) (record { store = s; answer = refused n })

-- One event: refused, or done.
unfoldable pub step : Store → Event → Step
step s e = decide (refusal s e) (forget s) e

-- the store after a list of events
unfoldable pub after : Store → List Event → Store
after s [] = s
after s (e ∷ es) = after (step s e).store es

-- the answers to a list of events
unfoldable pub answers : Store → List Event → List Answer
answers s [] = []
answers s (e ∷ es) = let x : Step = step s e in x.answer ∷ answers x.store es
