use Rattle.rows.specs.Tables.{place_at}
use Rattle.rows.proofs.total.result_at.Goals as goal

pub returns : goal.returns
unfolding place_at
returns c = rw (c.to_option.ensures, c.word_at.ensures, c.word_at-2.ensures)
