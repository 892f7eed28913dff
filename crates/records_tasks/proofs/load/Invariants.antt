use mathlib.Core.Path.{◌≡◌}
use Rattle.records_tasks.specs.TaskRows.{rows_of}
use Rattle.records_tasks.proofs.load.Given as goal

abbrev pub invariant-loop-t : goal.invariant-loop-t
invariant-loop-t l = l.words ≡ rows_of l.tasks l.t
