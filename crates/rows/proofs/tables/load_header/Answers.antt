use Rattle.rows.specs.Tables.{header_at}
use Rattle.rows.proofs.tables.load_header.Goals as goal

pub returns : goal.returns
unfolding header_at
returns c = rw (c.to_header.ensures, c.header_row.ensures)
