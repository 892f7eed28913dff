use mathlib.Core.Path.{◌≡◌}
use mathlib.Core.Bool.{Bool}
use Prim.Native.Nat.{ℕ, ◌+◌, ◌-◌}
use Rattle.scheduler.specs.Skips.{any_of, TestsObjects}
use Rattle.scheduler.proofs.skip.any_of.Given as goal

abbrev pub invariant-loop-i : goal.invariant-loop-i
invariant-loop-i g l = (p : ℕ → Bool) → TestsObjects (goal.F-post g l.test) p → any_of p (l.o + l.i) (g.row.N - l.i) ≡ any_of p l.o g.row.N
