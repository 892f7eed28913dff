use Prim.Native.Nat.{◌-◌, ◌*◌, ◌/◌}
use lib.ListN.{length}
use mathlib.Core.Path.{◌≡◌}
use Rattle.machine.specs.Machine.{any_of, bad_result}
use Rattle.exec_futures.specs.Results.{results_from, results_in}
use Rattle.step_checks.proofs.refusals.any_bad.Given as goal

abbrev pub invariant-loop-i : goal.invariant-loop-i
invariant-loop-i l = any_of bad_result (results_from l.results (l.i * 14) (length l.results / 14 - l.i)) ≡ any_of bad_result (results_in l.results)
