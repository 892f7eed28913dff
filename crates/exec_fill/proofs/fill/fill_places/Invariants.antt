use Prim.Native.Nat.{◌-◌}
use mathlib.Core.Path.{◌≡◌}
use Rattle.machine.specs.Delivery.{fill_from}
use Rattle.exec_fill.proofs.fill.fill_places.Given as goal

abbrev pub invariant-loop-i : goal.invariant-loop-i
invariant-loop-i l = fill_from l.places l.left l.w.first l.source.0 l.value l.i (l.w.count - l.i) ≡ fill_from l.initial.places l.w.open_places l.w.first l.source.0 l.value 0 l.w.count
