use Rattle.drive_text.specs.WritingLaws.{puts, puts_by_two}
use Rattle.test_print.specs.PrintingLaws.{rows_none, rows_turn}
use Rattle.test_print.proofs.write_tasks.Goals as goal

pub loop-t-init : goal.loop-t-init
loop-t-init c = puts (rows_none _ 173 _)

pub loop-t-preserved : goal.loop-t-preserved
loop-t-preserved c = puts_by_two (rows_turn _ 173 c.loop-t.t) c.loop-t.invariant c.write_task.ensures
