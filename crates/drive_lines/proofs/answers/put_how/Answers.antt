use Rattle.std.proofs.Common.{arith}
use Rattle.drive_text.specs.WritingLaws.{then_puts, puts_at_most}
use Rattle.drive_lines.specs.Lines.{how_text}
use Rattle.drive_lines.proofs.answers.put_how.Goals as goal

pub returns-in-Start : goal.returns-in-Start
unfolding how_text
returns-in-Start c = rw (c.in-Start.is, ← c.word.ensures) (puts_at_most (omega arith) (then_puts c.put_named.ensures c.put_field.ensures))

pub returns-in-Value : goal.returns-in-Value
unfolding how_text
returns-in-Value c = rw c.in-Value.is (puts_at_most (omega arith) (then_puts c.put_text.ensures c.put_value.ensures))

pub returns-in-Raised : goal.returns-in-Raised
unfolding how_text
returns-in-Raised c = rw c.in-Raised.is (puts_at_most (omega arith) (then_puts c.put_text-in-Raised.ensures c.put_error.ensures))
