use Rattle.drive_text.specs.WritingLaws.{then_puts}
use Rattle.test_print.proofs.write_row.Goals as goal

pub returns : goal.returns
returns c = then_puts c.put_text.ensures (then_puts c.put_numbers.ensures c.put_byte.ensures)
