use Rattle.drive_text.specs.WritingLaws.{puts, puts_by_three}
use Rattle.test_print.specs.PrintingLaws.{queue_none, queue_wrote}
use Rattle.test_print.proofs.write_queue.Goals as goal

pub returns-then-queue-gt-TASKS : goal.returns-then-queue-gt-TASKS
returns-then-queue-gt-TASKS c = puts (queue_none _ _ c.if-queue-gt-TASKS.true)

pub returns : goal.returns
returns c = puts_by_three (queue_wrote _ c.if-queue-gt-TASKS.false) c.put_text.ensures c.put_entries.ensures c.put_byte.ensures
