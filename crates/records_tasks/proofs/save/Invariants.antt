use mathlib.Core.Path.{◌≡◌}
use Rattle.records_tasks.specs.TaskRows.{saved}
use Rattle.records_tasks.proofs.save.Given as goal

abbrev pub invariant-loop-t : goal.invariant-loop-t
invariant-loop-t l = l.tasks ≡ saved l.words l.t l.initial.tasks
