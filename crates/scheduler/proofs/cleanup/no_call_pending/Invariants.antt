use mathlib.Core.Path.{◌≡◌}
use mathlib.Core.Bool.{true}
use Rattle.machine.specs.Scheduler.{calls_below}
use Rattle.machine.specs.Machine.{is_empty}
use Rattle.scheduler.proofs.cleanup.no_call_pending.Given as goal

abbrev pub invariant-loop-o : goal.invariant-loop-o
invariant-loop-o l = is_empty (calls_below l.objects l.o) ≡ true
