use Rattle.rows.specs.Tables.{header_put}
use Rattle.rows.proofs.tables.store_header.Goals as goal

pub returns : goal.returns
unfolding header_put
returns c = rw (c.store.ensures, c.header_words.ensures)
