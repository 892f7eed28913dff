use Rattle.std.proofs.Common.{arith}
use Rattle.step_read.specs.ReadLaws.{shown-length}
use Rattle.drive_text.specs.WritingLaws.{then_puts, puts_at_most}
use Rattle.drive_lines.specs.Lines.{shown_text}
use Rattle.drive_shows.specs.Shows.{shown_count}
use Rattle.drive_shows.proofs.shows.put_shown.Goals as goal

pub returns-in-ExternalResolved : goal.returns-in-ExternalResolved
unfolding shown_text shown_count
returns-in-ExternalResolved c = rw c.in-ExternalResolved.is (puts_at_most (omega arith) (then_puts c.put_text-in-ExternalResolved.ensures c.put_value.ensures))

pub returns-in-GatherPending : goal.returns-in-GatherPending
unfolding shown_text shown_count
returns-in-GatherPending c = rw c.in-GatherPending.is (puts_at_most (omega arith) c.put_text-in-GatherPending.ensures)

pub returns-in-GatherAwaited : goal.returns-in-GatherAwaited
unfolding shown_text shown_count
returns-in-GatherAwaited c = rw (c.in-GatherAwaited.is, shown-length) (puts_at_most (omega arith) c.put_gather.ensures)

pub returns-in-GatherCompleted : goal.returns-in-GatherCompleted
unfolding shown_text shown_count
returns-in-GatherCompleted c = rw (c.in-GatherCompleted.is, shown-length) (puts_at_most (omega arith) c.put_gather-in-GatherCompleted.ensures)
