-- The claim of CancelCounts as a test that computes (`counts_tested`: where the claim holds, the test passes), and sessions of which it is computed. A wrong
-- machine fails one of them (must-fail/).
use Rattle.std.specs.Prelude.{ℕ, ◌≡◌, Bool, ◌&&◌, List, [], ◌∷◌, map, eqb}
use Rattle.std.proofs.Math.Path.{refl}
use Rattle.std.proofs.Math.Bool.{true, false}
use Rattle.std.proofs.Common.{eq-eqb}
use Rattle.machine.specs.Events.{Result}
use Rattle.machine.specs.Machine.{Event, Answer}
use Rattle.machine.specs.History.{Entry, says, tells}
use Rattle.machine.specs.Sessions.{Sent, session}
use Rattle.machine.proofs.DemandThreeTest.{and_both}
use Rattle.machine.proofs.DemandThreeCases.{e, res, pend, computes3}
use Rattle.machine.specs.CancelCounts.{had_been_ready, ready_removed, CountRight, CountsRight}

-- the answer is a cancel's with count n
unfoldable pub is_count : ℕ → Answer → Bool
is_count n (Answer.made o) = false
is_count n (Answer.called m) = false
is_count n (Answer.control c) = false
is_count n (Answer.awaited c m) = false
is_count n Answer.done = false
is_count n (Answer.cancelled m) = eqb m n
is_count n Answer.stalled = false
is_count n (Answer.finished v) = false
is_count n (Answer.finished_error x) = false
is_count n (Answer.shows x) = false
is_count n (Answer.is_eager b) = false
is_count n (Answer.refused m) = false

-- a cancel that is accepted has the count that it should have
unfoldable pub count_test : Bool → Bool → ℕ → Answer → Bool
count_test true true n a = is_count n a
count_test true false n a = true
count_test false b n a = true

-- each one of a history
unfoldable pub counts_test : List Entry → Bool
counts_test [] = true
counts_test (x ∷ h) = count_test (says x.event).cancels (tells x.answer).accepts (ready_removed h x) x.answer && counts_test h

count-is : (n : ℕ) (a : Answer) → a ≡ Answer.cancelled n → is_count n a ≡ true
unfolding is_count
count-is n a q = rw q (eq-eqb n n refl)

-- where the claim holds, the test passes
pub counts_tested : (h : List Entry) → CountsRight h → counts_test h ≡ true
unfolding CountsRight CountRight counts_test
counts_tested [] k = refl
counts_tested (x ∷ h) k = and_both _ _ (by (says x.event).cancels (tells x.answer).accepts refl refl) (counts_tested h k.1)
  where
    by : (a b : Bool) → (says x.event).cancels ≡ a → (tells x.answer).accepts ≡ b → count_test a b (ready_removed h x) x.answer ≡ true
    by true true p q = unfold count_test in (count-is (ready_removed h x) x.answer (k.0 p q))
    by true false p q = unfold count_test in refl
    by false b p q = unfold count_test in refl

-- ---- sessions

-- Main waits for a gather of coroutine 0; task 1 waits for a gather of coroutines 1 and 2; tasks 2 and 3 wait for calls 0 and 1, main's gather for call 2 too.
abbrev pub branch : List Sent
branch =
    e (Event.coroutine 1) ∷ e (Event.coroutine 2) ∷ e (Event.coroutine 3) ∷ e Event.call ∷ e Event.call ∷ e Event.call ∷ e (pend 0) ∷ e (pend 1) ∷ e (pend 2)
    ∷ e (Event.gather (1 ∷ 2 ∷ [])) ∷ e (Event.gather (0 ∷ 5 ∷ [])) ∷ e (Event.await 7) ∷ e (Event.await 6) ∷ e (Event.await 3) ∷ e (Event.await 4) ∷ []

-- the events of l and then those of m
abbrev pub then : List Sent → List Sent → List Sent
then [] m = m
then (x ∷ l) m = x ∷ then l m

-- replies that wake children of task 1, and its cancel: none, one and two of them stand in the queue, and task 1 itself never does
abbrev children : List Result → List Sent
children rs = then branch (e (Event.results rs) ∷ e (Event.cancel 1) ∷ e (Event.cancel 1) ∷ [])

-- task 2 is ready and is cancelled; task 3 is blocked and is cancelled
abbrev alone : List Sent
alone = then branch (e (Event.results (res 0 0 9 ∷ [])) ∷ e (Event.cancel 2) ∷ e (Event.cancel 3) ∷ [])

-- main, whose gather has failed, and task 2 stand in the queue; task 3, which is blocked, is cancelled, and then task 1: main stays
abbrev beside : List Sent
beside = then branch (e (Event.results (res 2 1 9 ∷ res 0 0 9 ∷ [])) ∷ e (Event.cancel 3) ∷ e (Event.cancel 1) ∷ [])

pub counts_pass : map (λ es. counts_test (session es).history) (children [] ∷ children (res 1 0 9 ∷ []) ∷ children (res 1 0 9 ∷ res 0 0 9 ∷ []) ∷ alone ∷ beside ∷ [])
    ≡ true ∷ true ∷ true ∷ true ∷ true ∷ []
unfolding computes3 had_been_ready ready_removed is_count count_test counts_test
counts_pass = refl
