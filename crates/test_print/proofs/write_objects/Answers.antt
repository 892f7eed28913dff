use Rattle.drive_text.specs.WritingLaws.{puts, puts_by_two}
use Rattle.test_print.specs.PrintingLaws.{rows_none, rows_turn}
use Rattle.test_print.proofs.write_objects.Goals as goal

pub loop-o-init : goal.loop-o-init
loop-o-init c = puts (rows_none _ 175 _)

pub loop-o-preserved : goal.loop-o-preserved
loop-o-preserved c = puts_by_two (rows_turn _ 175 c.loop-o.o) c.loop-o.invariant c.write_object.ensures
