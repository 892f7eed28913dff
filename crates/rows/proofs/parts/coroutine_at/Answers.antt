use Rattle.rows.specs.Tables.{task_at}
use Rattle.rows.proofs.parts.coroutine_at.Goals as goal

pub returns : goal.returns
unfolding task_at
returns c = rw c.from_word.ensures
