use Rattle.drive_text.specs.WritingLaws.{then_puts}
use Rattle.drive_text.proofs.Writer.put_named.Goals as goal

pub returns : goal.returns
returns c = then_puts c.put_text.ensures c.put_field.ensures
