use Rattle.std.proofs.Common.{arith}
use Rattle.drive_text.specs.WritingLaws.{then_puts, puts_at_most}
use Rattle.drive_lines.specs.Lines.{answer_text}
use Rattle.drive_lines.proofs.answers.put_answer.Goals as goal

pub returns-in-Awaited : goal.returns-in-Awaited
unfolding answer_text
returns-in-Awaited c = rw c.in-Awaited.is (puts_at_most (omega arith) (then_puts c.put_control-in-Awaited.ensures c.put_named-in-Awaited.ensures))

pub returns-in-Finished : goal.returns-in-Finished
unfolding answer_text
returns-in-Finished c = rw c.in-Finished.is (puts_at_most (omega arith) (then_puts c.put_text-in-Finished.ensures c.put_value.ensures))

pub returns-in-FinishedError : goal.returns-in-FinishedError
unfolding answer_text
returns-in-FinishedError c = rw c.in-FinishedError.is (puts_at_most (omega arith) (then_puts c.put_text-in-FinishedError.ensures c.put_error.ensures))
