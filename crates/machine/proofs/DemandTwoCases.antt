-- Sessions of which demand 2 is computed: what show gives of a gather, and the documentation's gather of the arrivals. A machine that fails one of these
-- refutes `DemandTwo` (must-fail/). The exception's sessions are in `machine_cases`.
use Rattle.std.specs.Prelude.{ℕ, ◌≡◌, refl, List, [], ◌∷◌, map}
use Rattle.asyncio.specs.declared.Value.{Value}
use Rattle.asyncio.specs.declared.Error.{Error}
use Rattle.asyncio.specs.Numbers.{heap_id}
use Rattle.machine.specs.Machine.{Event}
use Rattle.machine.specs.Gather.{Gathered, waiting, listed, propagated, outcome_of, first_raised, put_first, in_order, gather}
use Rattle.machine.specs.History.{items}
use Rattle.machine.specs.Sessions.{Sent, Session, begun, session}
use Rattle.machine.specs.Singles.{batch_of, accepted_batch, each_alone, cut_by, cut}
use Rattle.machine.specs.DemandThree.{look}
use Rattle.machine.specs.DemandTwo.{came, committed, values, seen, arrives, arrivals_of, is_late, early, late, in_turn, arrivals_by, arrivals_in, arrivals_along, arrivals_from}
use Rattle.machine.proofs.DemandThreeCases.{e, res, pend, computes3}

-- a session, and a gather of it
pub record Gathering : Type 0 where
  pub events : List Sent
  pub gathered : ℕ

-- the gather after the events: as it is shown, and as the documentation has it
unfoldable pub shown_and_documented : Gathering → Gathered Value Error × Gathered Value Error
shown_and_documented x =
    let s : Session = session x.events in (seen (look s.store x.gathered), gather (items s.history x.gathered) (arrivals_from begun x.events x.gathered))

unfoldable pub computes2 : Unit {0}
unfolding computes3 came committed values seen arrives arrivals_of is_late early late in_turn arrivals_by arrivals_in arrivals_along arrivals_from outcome_of first_raised put_first in_order gather batch_of accepted_batch each_alone cut_by cut shown_and_documented
computes2 = tt

-- calls 0 and 1 in a gather, call 1 first; then these events
abbrev two_calls : List Sent → Gathering
two_calls es =
    record {
      events = e Event.call ∷ e (pend 0) ∷ e Event.call ∷ e (pend 1) ∷ e (Event.gather (1 ∷ 0 ∷ [])) ∷ e (Event.await 2) ∷ es;
      gathered = 2;
    }

-- an item that has failed before the commit
abbrev failed_before : Gathering
failed_before =
    record {
      events = e Event.call ∷ e (pend 0) ∷ e (Event.results (res 0 1 7 ∷ [])) ∷ e (Event.gather (0 ∷ [])) ∷ e (Event.await 1) ∷ [];
      gathered = 1;
    }

-- Task 1 fails, and task 2, whose coroutine main has awaited in the meantime, fails at its first run in the same event: both are of gather 2. (The outer
-- gather 4 has failed before, so that the first error wakes nobody.)
abbrev both_errors : Gathering
both_errors =
    record {
      events = e (Event.coroutine 7) ∷ e (Event.coroutine 8) ∷ e (Event.gather (0 ∷ 1 ∷ [])) ∷ e Event.call ∷ e (pend 0) ∷ e (Event.gather (2 ∷ 3 ∷ [])) ∷ e (Event.await 4)
          ∷ e (Event.await 1) ∷ e (Event.results (res 0 1 7 ∷ [])) ∷ e (Event.fail 5) ∷ [];
      gathered = 2;
    }

-- P2, gather(c, c, f, f) with c new and f pending: nothing of it is in use
abbrev repeats : Gathering
repeats =
    record {
      events = e (Event.coroutine 7) ∷ e Event.call ∷ e (pend 0) ∷ e (Event.gather (0 ∷ 0 ∷ 1 ∷ 1 ∷ [])) ∷ e (Event.await 2) ∷ [];
      gathered = 2;
    }

-- Tasks 1 and 2 of coroutines 0 and 1, which wait for calls 0 and 1; main waits for them, and for gather 4 of calls 2 and 3. Then these events.
abbrev two_tasks : ℕ → List Sent → Gathering
two_tasks g es =
    record {
      events = e (Event.coroutine 7) ∷ e (Event.coroutine 8) ∷ e Event.call ∷ e Event.call ∷ e Event.call ∷ e (pend 2) ∷ e Event.call ∷ e (pend 3) ∷ e (Event.gather (2 ∷ 3 ∷ []))
          ∷ e (Event.gather (0 ∷ 1 ∷ 4 ∷ [])) ∷ e (Event.await 5) ∷ e (pend 0) ∷ e (Event.await 6) ∷ e (pend 1) ∷ e (Event.await 7) ∷ es;
      gathered = g;
    }

-- One batch wakes task 2, main and task 1, and fails calls 3 and 2.
abbrev out_of_order : List Sent
out_of_order = e (Event.results (res 1 0 5 ∷ res 3 1 9 ∷ res 0 0 6 ∷ res 2 1 8 ∷ [])) ∷ []

-- they run, the first completes with 11 and the next with 12; then calls 3 and 2 are answered
abbrev end_of_both : List Sent
end_of_both = e Event.resume ∷ e (Event.complete (Value.Plain 11)) ∷ e (Event.complete (Value.Plain 12)) ∷ e (Event.results (res 3 0 9 ∷ res 2 0 8 ∷ [])) ∷ []

-- P10, one batch wakes task 2, then 1: task 1 runs first (document 02, No. 7)
abbrev one_batch : List Sent
one_batch = e (Event.results (res 1 0 5 ∷ res 0 0 6 ∷ [])) ∷ end_of_both

-- in two batches task 2 stays first
abbrev two_batches : List Sent
two_batches = e (Event.results (res 1 0 5 ∷ [])) ∷ e (Event.results (res 0 0 6 ∷ [])) ∷ end_of_both

-- P11, in two batches and in one; two values in one batch; what a gather keeps follows the batch, who runs first does not
abbrev gatherings : List Gathering
gatherings =
    two_calls (e (Event.results (res 0 1 7 ∷ [])) ∷ e (Event.results (res 1 1 8 ∷ [])) ∷ [])
    ∷ two_calls (e (Event.results (res 0 1 7 ∷ res 1 1 8 ∷ [])) ∷ [])
    ∷ two_calls (e (Event.results (res 0 0 7 ∷ res 1 0 8 ∷ [])) ∷ [])
    ∷ failed_before
    ∷ both_errors
    ∷ repeats
    ∷ two_tasks 4 out_of_order
    ∷ two_tasks 5 out_of_order
    ∷ two_tasks 5 one_batch
    ∷ two_tasks 5 two_batches
    ∷ []

-- what is shown and what is documented
abbrev alike : Gathered Value Error → Gathered Value Error × Gathered Value Error
alike x = (x, x)

pub gatherings-right : map shown_and_documented gatherings ≡
    alike (propagated (Error.Host 7)) ∷ alike (propagated (Error.Host 7)) ∷ alike (listed (Value.Plain 8 ∷ Value.Plain 7 ∷ [])) ∷ alike (propagated (Error.Host 7))
    ∷ alike (propagated (Error.Script 5)) ∷ alike waiting ∷ alike (propagated (Error.Host 9)) ∷ alike (propagated (Error.Host 9))
    ∷ alike (listed (Value.Plain 11 ∷ Value.Plain 12 ∷ Value.List (heap_id 4) ∷ []))
    ∷ alike (listed (Value.Plain 12 ∷ Value.Plain 11 ∷ Value.List (heap_id 4) ∷ [])) ∷ []
unfolding computes2
gatherings-right = refl
