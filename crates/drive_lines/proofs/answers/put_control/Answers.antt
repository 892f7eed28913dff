use Rattle.std.proofs.Common.{arith}
use Rattle.drive_text.specs.WritingLaws.{then_puts, puts_at_most}
use Rattle.drive_lines.specs.Lines.{control_text}
use Rattle.drive_lines.proofs.answers.put_control.Goals as goal

pub returns-in-Runs : goal.returns-in-Runs
unfolding control_text
returns-in-Runs c = rw (c.in-Runs.is, ← c.word.ensures) (puts_at_most (omega arith) (then_puts c.put_named.ensures c.put_how.ensures))
