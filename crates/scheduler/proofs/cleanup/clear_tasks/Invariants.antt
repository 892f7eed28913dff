use Prim.Native.Nat.{◌-◌}
use mathlib.Core.Path.{◌≡◌}
use Rattle.scheduler.specs.Ends.{clear_from}
use Rattle.scheduler.proofs.cleanup.clear_tasks.Given as goal

abbrev pub invariant-loop-t : goal.invariant-loop-t
invariant-loop-t l = clear_from l.tasks l.t (l.next - l.t) ≡ clear_from l.initial.tasks 0 l.next
