use Rattle.std.proofs.Common.{ap, ◌∙◌}
use Rattle.asyncio.specs.Layout.{object_words}
use Rattle.asyncio.specs.RangeLaws.{object_wide}
use Rattle.rows.specs.Tables.{object_at}
use Rattle.drive_text.specs.Text.{bytes_of}
use Rattle.drive_text.specs.WritingLaws.{puts_by}
use Rattle.test_print.specs.Printing.{object_text}
use Rattle.test_print.specs.PrintingLaws.{row_wrote}
use Rattle.test_print.proofs.write_object.Goals as goal

pub returns : goal.returns
unfolding object_text
returns c = puts_by (row_wrote 8 (bytes_of "object") (c.object_words.ensures ∙ ap object_words c.load_object.ensures) (object_wide (object_at _ _))) c.write_row.ensures
