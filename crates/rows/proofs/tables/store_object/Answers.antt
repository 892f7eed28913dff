use Rattle.rows.specs.Tables.{object_put}
use Rattle.rows.proofs.tables.store_object.Goals as goal

pub returns : goal.returns
unfolding object_put
returns c = rw (c.store.ensures, c.object_words.ensures)
