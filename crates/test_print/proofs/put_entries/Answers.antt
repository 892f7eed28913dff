use Rattle.std.proofs.Common.{arith}
use Rattle.std.proofs.lemmas.List.{get_or-take}
use Rattle.drive_text.specs.WritingLaws.{puts, puts_by_two}
use Rattle.test_print.specs.PrintingLaws.{rows_none, rows_turn}
use Rattle.test_print.proofs.put_entries.Goals as goal

pub loop-t-init : goal.loop-t-init
loop-t-init c = puts (rows_none _ 21 _)

pub loop-t-preserved : goal.loop-t-preserved
loop-t-preserved c =
    puts_by_two (rows_turn _ 21 c.loop-t.t-index) c.loop-t.invariant (rw (get_or-take c.args.queue.now.len c.args.queue.now.ids c.loop-t.t-index 0 (omega arith)) at c.put_field.ensures)
