use Prim.Native.Nat.{◌-◌}
use mathlib.Core.Path.{◌≡◌}
use Rattle.machine.specs.Scheduler.{first_from, is_call, pending_external_in}
use Rattle.scheduler.proofs.tasks.take_pending_external.Given as goal

abbrev pub invariant-loop-o : goal.invariant-loop-o
invariant-loop-o l = first_from (is_call l.objects l.call) l.o (l.made - l.o) ≡ pending_external_in l.objects l.call
