use Rattle.std.specs.Prelude.{refl}
use Rattle.std.proofs.Common.{arith}
use Rattle.drive_reader.specs.Items.{items_at}
use Rattle.drive_reader.specs.ItemLaws.{store_item}
use Rattle.drive_reader.proofs.items.gather_items.Goals as goal

pub loop-i-init : goal.loop-i-init
unfolding items_at
loop-i-init c = refl

pub loop-i-preserved : goal.loop-i-preserved
loop-i-preserved c = store_item c.args.src.now c.args.first c.loop-i.i c.args.items.now (omega arith) c.loop-i.invariant c.item_at.ensures
