use Rattle.rows.specs.Tables.{place_put}
use Rattle.rows.proofs.tables.store_place.Goals as goal

pub returns : goal.returns
unfolding place_put
returns c = rw (c.store.ensures, c.place_words.ensures)
