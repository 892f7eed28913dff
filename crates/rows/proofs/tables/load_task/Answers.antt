use Rattle.rows.specs.Tables.{task_at}
use Rattle.rows.proofs.tables.load_task.Goals as goal

pub returns : goal.returns
unfolding task_at
returns c = rw (c.to_task.ensures, c.task_row.ensures)
