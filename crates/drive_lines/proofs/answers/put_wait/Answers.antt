use Rattle.drive_text.specs.WritingLaws.{puts_by_two}
use Rattle.drive_lines.specs.LineLaws.{wait_wrote}
use Rattle.drive_lines.proofs.answers.put_wait.Goals as goal

pub returns : goal.returns
returns c = puts_by_two (wait_wrote c.args.calls.now) c.put_named.ensures c.put_numbers.ensures
