use Rattle.rows.specs.Tables.{object_at}
use Rattle.rows.proofs.tables.load_object.Goals as goal

pub returns : goal.returns
unfolding object_at
returns c = rw (c.to_object.ensures, c.object_row.ensures)
