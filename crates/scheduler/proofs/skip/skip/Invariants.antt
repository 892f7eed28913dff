use mathlib.Core.Bool.{Bool}
use Prim.Native.Nat.{ℕ, ◌-◌, ◌≤◌}
use Rattle.scheduler.specs.Skips.{BeginsAt, TestsObjects}
use Rattle.scheduler.proofs.skip.skip.Given as goal

abbrev pub invariant-loop-o : goal.invariant-loop-o
invariant-loop-o g l = (l.o ≤ l.made) × ((p : ℕ → Bool) → TestsObjects (goal.F-post g l.test) p → BeginsAt p l.made l.o)

abbrev pub decreases-loop-o : goal.decreases-loop-o
decreases-loop-o g l = l.made - l.o
