-- The order in which one batch wakes (document 02, No. 7), computed: who stands in the ready queue, front first.
use Rattle.std.specs.Prelude.{ℕ, ◌≡◌, refl, List, [], ◌∷◌, ◌++◌, map}
use Rattle.queue.specs.Queue.{entries}
use Rattle.machine.specs.Store.{fresh}
use Rattle.machine.specs.Events.{Result}
use Rattle.machine.specs.Machine.{Event, after}
use Rattle.machine.specs.Computes.{computes}
use Rattle.machine.specs.Cases.{pending, return, error}

-- the queue after a session
unfoldable pub queued_after : List Event → List ℕ
queued_after es = entries (after fresh es).queue

-- tasks 1, 2 and 3 of coroutines 0, 1 and 2; main waits for them
abbrev three_tasks : List Event
three_tasks =
    Event.coroutine 1 ∷ Event.coroutine 2 ∷ Event.coroutine 3 ∷ Event.gather (0 ∷ 1 ∷ 2 ∷ []) ∷ Event.call ∷ Event.call ∷ Event.call ∷ pending 0 ∷ pending 1 ∷ pending 2 ∷
    Event.await 3 ∷ []

-- they wait for calls 0, 1 and 2
abbrev all_wait : List Event
all_wait = three_tasks ++ (Event.await 4 ∷ Event.await 5 ∷ Event.await 6 ∷ [])

-- results for three calls, in this order
abbrev replies : ℕ → ℕ → ℕ → List Result
replies a b c = return a 5 ∷ return b 5 ∷ return c 5 ∷ []

-- who stands in the queue after one batch
unfoldable pub woken_by_one : List Result → List ℕ
woken_by_one rs = queued_after (all_wait ++ (Event.results rs ∷ []))

-- each task once, lowest first
abbrev ascending : List ℕ
ascending = 1 ∷ 2 ∷ 3 ∷ []

-- one batch, in every order
pub every_order : map woken_by_one (replies 0 1 2 ∷ replies 0 2 1 ∷ replies 1 0 2 ∷ replies 1 2 0 ∷ replies 2 0 1 ∷ replies 2 1 0 ∷ [])
    ≡ ascending ∷ ascending ∷ ascending ∷ ascending ∷ ascending ∷ ascending ∷ []
unfolding computes queued_after woken_by_one
every_order = refl

-- two batches in a row: who is woken by the first stays in front
pub two_batches : queued_after (all_wait ++ (Event.results (return 2 5 ∷ []) ∷ Event.results (return 1 5 ∷ return 0 5 ∷ []) ∷ [])) ≡ 3 ∷ 1 ∷ 2 ∷ []
unfolding computes queued_after
two_batches = refl

-- results while task 3 runs: it is not woken
pub while_running : queued_after (three_tasks ++ (Event.await 4 ∷ Event.await 5 ∷ Event.results (return 1 5 ∷ return 2 5 ∷ return 0 5 ∷ []) ∷ [])) ≡ 1 ∷ 2 ∷ []
unfolding computes queued_after
while_running = refl

-- Main waits for gather 4 of task 1's coroutine and of gather 3, which has gather 2, which has call 0; task 1 waits for call 1.
abbrev nested : List Event
nested =
    Event.call ∷ pending 0 ∷ Event.coroutine 1 ∷ Event.gather (0 ∷ []) ∷ Event.gather (2 ∷ []) ∷ Event.gather (1 ∷ 3 ∷ []) ∷ Event.await 4 ∷ Event.call ∷ pending 1 ∷
    Event.await 5 ∷ []

-- an error goes through three gathers to main, which counts as 0
pub main_first : queued_after (nested ++ (Event.results (return 1 5 ∷ error 0 9 ∷ []) ∷ [])) ≡ 0 ∷ 1 ∷ []
unfolding computes queued_after
main_first = refl
