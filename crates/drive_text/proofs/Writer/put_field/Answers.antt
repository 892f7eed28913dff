use Rattle.drive_text.specs.WriteLaws.{spaced}
use Rattle.drive_text.specs.WritingLaws.{puts_by_two}
use Rattle.drive_text.proofs.Writer.put_field.Goals as goal

pub returns : goal.returns
returns c = puts_by_two (spaced _) c.put_byte.ensures c.put_decimal.ensures
