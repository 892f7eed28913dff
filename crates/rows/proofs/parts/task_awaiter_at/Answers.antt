use Rattle.rows.specs.Tables.{task_at}
use Rattle.rows.proofs.parts.task_awaiter_at.Goals as goal

pub returns : goal.returns
unfolding task_at
returns c = rw c.to_awaiter.ensures
