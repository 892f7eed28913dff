use mathlib.Core.Path.{◌≡◌}
use mathlib.Core.Bool.{true}
use Rattle.rows.specs.Tables.{object_at}
use Rattle.machine.specs.Tests.{all_below}
use Rattle.machine.specs.Sound.{call_new}
use Rattle.sound_tasks.specs.CallLaws.{Highest}
use Rattle.sound_tasks.proofs.calls.calls_new.Given as goal

abbrev pub invariant-loop-o : goal.invariant-loop-o
invariant-loop-o l = (all_below l.o (call_new (object_at l.objects)) ≡ true) × Highest l.objects l.o l.free
