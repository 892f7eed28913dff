use mathlib.Core.Path.{◌≡◌}
use mathlib.Core.Bool.{true}
use Prim.Native.Nat.{◌*◌, ◌≤◌}
use Rattle.rows.specs.Tables.{object_at}
use Rattle.machine.specs.Tests.{all_below}
use Rattle.machine.specs.Sound.{places_below}
use Rattle.sound_rows.specs.Numbers.{object_ranged}
use Rattle.sound_rows.proofs.numbers.objects_in_range.Given as goal

abbrev pub invariant-loop-o : goal.invariant-loop-o
invariant-loop-o l = (all_below l.o (object_ranged l.header (object_at l.objects)) ≡ true) × (l.p ≡ places_below (object_at l.objects) l.o) × (l.p ≤ 32 * l.o)
