use Rattle.machine.specs.Machine as machine
use Rattle.drive_text.specs.WritingLaws.{puts_by_three}
use Rattle.drive_lines.specs.Lines.{answer_text}
use Rattle.drive_lines.specs.LineLaws.{line_wrote}
use Rattle.drive_lines.proofs.answers.write_refused.Goals as goal

pub returns : goal.returns
unfolding answer_text
returns c = puts_by_three (line_wrote c.args.number (machine.Answer.refused c.args.n)) c.put_decimal.ensures c.put_named.ensures c.put_byte.ensures
