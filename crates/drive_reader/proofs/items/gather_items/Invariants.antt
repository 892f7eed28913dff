use Rattle.std.specs.Prelude.{◌≡◌, ◌++◌, drop}
use Rattle.drive_reader.specs.Items.{items_at}
use Rattle.drive_reader.proofs.items.gather_items.Given as goal

abbrev pub invariant-loop-i : goal.invariant-loop-i
invariant-loop-i l = l.items ≡ items_at l.src l.first l.i ++ drop l.i l.initial.items
