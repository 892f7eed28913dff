use Rattle.drive_text.specs.WriteLaws.{numbers_none, numbers_turn}
use Rattle.drive_text.specs.WritingLaws.{puts, puts_by_two}
use Rattle.drive_text.proofs.Writer.put_numbers.Goals as goal

pub loop-n-init : goal.loop-n-init
loop-n-init c = puts (numbers_none _)

pub loop-n-preserved : goal.loop-n-preserved
loop-n-preserved c = puts_by_two (numbers_turn _ c.loop-n.n-index c.loop-n-test.true) c.loop-n.invariant c.put_field.ensures
