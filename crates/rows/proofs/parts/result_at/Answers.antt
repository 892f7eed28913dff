use Rattle.rows.specs.Tables.{place_at}
use Rattle.rows.proofs.parts.result_at.Goals as goal

pub returns : goal.returns
unfolding place_at
returns c = rw c.to_option.ensures
