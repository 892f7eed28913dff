use Rattle.std.proofs.Common.{arith}
use Rattle.machine.specs.Machine as machine
use Rattle.step_read.specs.Reads.{shown_of}
use Rattle.drive_text.specs.WritingLaws.{then_puts, puts_by_three, puts_at_most}
use Rattle.drive_lines.specs.Lines.{answer_text}
use Rattle.drive_lines.specs.LineLaws.{line_wrote}
use Rattle.drive_shows.proofs.shows.write_shown.Goals as goal

pub returns : goal.returns
unfolding answer_text
returns c =
    puts_at_most (omega arith)
    (puts_by_three (line_wrote _ (machine.Answer.shows (shown_of c.args.places.now c.args.shown))) c.put_decimal.ensures (then_puts c.put_text.ensures c.put_shown.ensures) c.put_byte.ensures)
