use Rattle.std.proofs.Common.{refl, ap, ◌∙◌}
use Rattle.asyncio.specs.Layout.{task_words}
use Rattle.drive_text.specs.Text.{bytes_of}
use Rattle.drive_text.specs.WritingLaws.{puts_by}
use Rattle.test_print.specs.Printing.{task_text}
use Rattle.test_print.specs.PrintingLaws.{row_wrote}
use Rattle.test_print.proofs.write_task.Goals as goal

pub returns : goal.returns
unfolding task_text
returns c = puts_by (row_wrote 8 (bytes_of "task") (c.task_words.ensures ∙ ap task_words c.load_task.ensures) refl) c.write_row.ensures
