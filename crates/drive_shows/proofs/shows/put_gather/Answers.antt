use Rattle.drive_text.specs.WritingLaws.{then_puts}
use Rattle.drive_shows.proofs.shows.put_gather.Goals as goal

pub returns : goal.returns
returns c = then_puts c.put_text.ensures (then_puts c.put_field.ensures c.put_places.ensures)
