-- Results in lent bytes: 14 each, in document 01's layout: call 4, kind 1, and a value's 9, its tag and its number.
use Rattle.std.specs.Prelude.{ℕ, zero, suc, ◌+◌, ◌/◌, List, [], ◌∷◌, length}
use Rattle.endian.specs.Endian.{le1, le4, le8}
use Rattle.std.specs.Prelude.{eqb, Option, None, Some}
use Rattle.asyncio.specs.States.{pick}
use Rattle.machine.specs.Events.{Result}
use Rattle.exec_futures.specs.declared.results.ResultKind.{ResultKind}
use Rattle.exec_futures.specs.declared.results.FutureResult.{FutureResult}

-- the kind that a byte names, or none
abbrev pub kind_of : ℕ → Option ResultKind
kind_of n =
    pick (eqb n 0) (Some ResultKind.Return)
    (pick (eqb n 1) (Some ResultKind.Error)
    (pick (eqb n 2) (Some ResultKind.StillFuture)
    (pick (eqb n 3) (Some ResultKind.NotFound)
    (pick (eqb n 4) (Some ResultKind.ModuleFile) None))))

-- a result, as the code reads it
abbrev pub result_of : FutureResult → Result
result_of r = record { call = r.call; kind = r.kind; tag = r.tag; number = r.number }

-- the result at a place
abbrev pub result_at : List ℕ → ℕ → Result
result_at bs at = record { call = le4 bs at; kind = le1 bs (at + 4); tag = le1 bs (at + 5); number = le8 bs (at + 6) }

-- k results from a place on
unfoldable pub results_from : List ℕ → ℕ → ℕ → List Result
results_from bs at zero = []
results_from bs at (suc k) = result_at bs at ∷ results_from bs (at + 14) k

-- all that are there
unfoldable pub results_in : List ℕ → List Result
results_in bs = results_from bs 0 (length bs / 14)
