-- Stores that are sound and one that is not, as a table; one computed test proves all rows. (More are in the crate `cases`.)
use Rattle.std.specs.Prelude.{◌≡◌, refl, Bool, true, false, List, [], ◌∷◌, map}
use Rattle.asyncio.specs.Numbers.{task_id, call_id}
use Rattle.std.specs.Prelude.{None}
use Rattle.asyncio.specs.declared.Awaiter.{Awaiter}
use Rattle.asyncio.specs.declared.ExternalFutureState.{ExternalFutureState}
use Rattle.asyncio.specs.declared.Object.{Object}
use Rattle.machine.specs.Store.{Store, fresh, put_object}
use Rattle.machine.specs.Sound.{sound}
use Rattle.machine.specs.Events.{Result}
use Rattle.machine.specs.Machine.{Event, after}
use Rattle.machine.specs.Computes.{computes}

-- two coroutines and a pending call in a gather, awaited by main: task 1 runs, task 2 is ready
unfoldable pub started : Store
started =
    after fresh
    (Event.coroutine 7 ∷ Event.coroutine 8 ∷ Event.call ∷ Event.pending 0 None ∷ Event.gather (0 ∷ 1 ∷ 2 ∷ []) ∷ Event.await 3 ∷ [])

-- main awaits a call, and its value has come: main is ready
unfoldable pub woken : Store
woken =
    after fresh
    (Event.call ∷ Event.pending 0 None ∷ Event.await 0 ∷ Event.results (record { call = 0; kind = 0; tag = 0; number = 5 } ∷ []) ∷ [])

-- what is said of the stores, row by row
unfoldable pub stores : List Store
stores =
    fresh ∷ started ∷ woken ∷
    -- not sound, X5: an awaiter that is not below the next number
    put_object woken 0 (Object.ExternalFuture (call_id 0) (ExternalFutureState.Pending (Awaiter.Task (task_id 1)) None)) ∷
    []

-- is each sound?
unfoldable pub verdicts : List Bool
verdicts = true ∷ true ∷ true ∷ false ∷ []

-- Every row of the table holds of the test.
pub sound-cases : map sound stores ≡ verdicts
unfolding computes started woken stores verdicts
sound-cases = refl
