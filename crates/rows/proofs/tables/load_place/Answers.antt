use Rattle.rows.specs.Tables.{place_at}
use Rattle.rows.proofs.tables.load_place.Goals as goal

pub returns : goal.returns
unfolding place_at
returns c = rw (c.to_place.ensures, c.place_row.ensures)
