use Rattle.std.proofs.Common.{arith}
use Rattle.drive_text.specs.WritingLaws.{puts_by_three, puts_at_most}
use Rattle.drive_lines.specs.LineLaws.{line_wrote}
use Rattle.drive_lines.proofs.answers.write_line.Goals as goal

pub returns : goal.returns
returns c = puts_at_most (omega arith) (puts_by_three (line_wrote _ _) c.put_decimal.ensures c.put_answer.ensures c.put_byte.ensures)
