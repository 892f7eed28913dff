use mathlib.Core.Path.{◌≡◌}
use Prim.Native.Nat.{ℕ, ◌*◌, ◌≤◌}
use Rattle.rows.specs.Tables.{object_at}
use Rattle.machine.specs.Tests.{sum_below}
use Rattle.machine.specs.Sound.{committed_places}
use Rattle.sound_rows.proofs.numbers.committed_places.Given as goal

abbrev pub invariant-loop-o : goal.invariant-loop-o
invariant-loop-o l = (l.sum ≡ sum_below l.o (λ (i : ℕ). committed_places (object_at l.objects i))) × (l.sum ≤ 32 * l.o)
