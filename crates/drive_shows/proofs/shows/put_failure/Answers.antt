use Rattle.std.proofs.Common.{arith}
use Rattle.drive_text.specs.WritingLaws.{then_puts, puts_at_most}
use Rattle.drive_shows.proofs.shows.put_failure.Goals as goal

pub returns : goal.returns
returns c = puts_at_most (omega arith) (then_puts c.put_text.ensures (then_puts c.put_text-2.ensures c.put_error.ensures))
