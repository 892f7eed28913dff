-- Sessions of which demand 3's test is computed. A wrong machine fails one of them (must-fail/).
use Rattle.std.specs.Prelude.{ℕ, ◌≡◌, refl, Bool, true, false, ◌&&◌, List, [], ◌∷◌, map, replicate}
use Rattle.asyncio.specs.declared.Value.{Value}
use Rattle.std.specs.Prelude.{None, Some}
use Rattle.machine.specs.Events.{Result}
use Rattle.machine.specs.Machine.{Event}
use Rattle.machine.specs.Computes.{computes}
use Rattle.machine.specs.Lent.{slices_right, lengths_right, write_calls, control_calls, answer_calls, written, lent_by, lent_step, lent_read, lent_begin}
use Rattle.machine.specs.History.{lives_by, lives, blocked_by, stays_blocked, nothing_said, says, done_only, tells, said, is_at, reply_in, unanswered, later, making, first_reply, runner_by, running, started_by, coroutine_of, running_coroutine, completed_value, spawned_by, spawned_for, is_none, exits_unstarted, failed_error, coroutine_outcome, reply_error, stored_or, reply_outcome, shown_outcome, outcome_by, outcome, value_of, error_of, items, cancelled}
use Rattle.machine.specs.Sessions.{Sent, Session, is_read, read_lent, lent_any, happened_by, entry_of, begun, send, send_all, session}
use Rattle.machine.specs.DemandThree.{read, shown_by, look, delivered, none_open, empty_wait, is_stalled, goes_on}
use Rattle.machine.proofs.DemandThreeTest.{same_bit, same_value, same_place, same_places, queue_test, shown_test, answer_test, places_test, calls_test, control_test, waits_test, demand3_test}
use Rattle.machine.specs.Honest.{runs_task, last_await, left_waiting, shows_waiting, waits_at}
use Rattle.machine.proofs.HonestTest.{is_five, live_test, state_test}

-- an event with a list that is long enough
abbrev pub e : Event → Sent
e x = record { event = x; list = replicate 256 7 }

-- a result: call, kind and number
abbrev pub res : ℕ → ℕ → ℕ → Result
res c k n = record { call = c; kind = k; tag = 0; number = n }

abbrev pub pend : ℕ → Event
pend c = Event.pending c None

-- A repeat, an external with a stored result, a settled one, a nested gather, a call that nobody awaits; one reply of two. (Objects: coroutine 0, externals 1
-- to 4, gathers 5 and 6.)
abbrev some_open : List Sent
some_open =
    e (Event.coroutine 7) ∷ e Event.call ∷ e (Event.pending 0 (Some (Value.Plain 8))) ∷ e Event.call ∷ e (pend 1) ∷ e (Event.settled (Value.Plain 3))
    ∷ e Event.call ∷ e (pend 3) ∷ e (Event.gather (2 ∷ 3 ∷ [])) ∷ e (Event.gather (0 ∷ 1 ∷ 0 ∷ 5 ∷ [])) ∷ e (Event.await 6) ∷ e (Event.complete (Value.Plain 40))
    ∷ e (Event.results (res 0 0 5 ∷ [])) ∷ []

-- a task waits for a call, which is answered; it is resumed
abbrev resumed : List Sent
resumed = e Event.call ∷ e (pend 0) ∷ e (Event.await 0) ∷ e (Event.results (res 0 0 5 ∷ [])) ∷ e Event.resume ∷ []

-- a task that stands in the queue is cancelled
abbrev queued_task : List Sent
queued_task =
    e (Event.coroutine 1) ∷ e (Event.gather (0 ∷ [])) ∷ e (Event.await 1) ∷ e Event.call ∷ e (pend 0) ∷ e (Event.await 2) ∷ e (Event.results (res 0 0 1 ∷ [])) ∷ e (Event.cancel 1) ∷ []

-- two tasks of a gather: task 1 waits for a call, task 2 fails, and main, which raises its error, waits for another call; task 1 runs on
abbrev runs_on : List Sent
runs_on =
    e (Event.coroutine 1) ∷ e (Event.coroutine 2) ∷ e (Event.gather (0 ∷ 1 ∷ [])) ∷ e Event.call ∷ e (pend 0) ∷ e Event.call ∷ e (pend 1) ∷ e (Event.await 2) ∷ e (Event.await 3)
    ∷ e (Event.fail 5) ∷ e (Event.await 4) ∷ []

-- the statements and their tests compute
unfoldable pub computes3 : Unit {0}
unfolding computes slices_right lengths_right write_calls control_calls answer_calls written lent_by lent_step lent_read lent_begin lives_by lives blocked_by stays_blocked nothing_said says done_only tells said is_at reply_in unanswered later making first_reply runner_by running started_by coroutine_of running_coroutine completed_value spawned_by spawned_for is_none exits_unstarted failed_error coroutine_outcome reply_error stored_or reply_outcome shown_outcome outcome_by outcome value_of error_of items cancelled is_read read_lent lent_any happened_by entry_of begun send send_all session read shown_by look delivered none_open empty_wait is_stalled goes_on same_bit same_value same_place same_places queue_test shown_test answer_test places_test calls_test control_test waits_test demand3_test runs_task last_await left_waiting shows_waiting waits_at is_five live_test state_test
computes3 = tt

-- Both tests of each session.
pub sessions_pass : map (λ es. let x : Session = session es in demand3_test 7 x && state_test 3 x.history x.store) (some_open ∷ resumed ∷ queued_task ∷ runs_on ∷ []) ≡ true ∷ true ∷ true ∷ true ∷ []
unfolding computes3
sessions_pass = refl
