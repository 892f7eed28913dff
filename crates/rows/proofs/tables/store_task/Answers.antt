use Rattle.rows.specs.Tables.{task_put}
use Rattle.rows.proofs.tables.store_task.Goals as goal

pub returns : goal.returns
unfolding task_put
returns c = rw (c.store.ensures, c.task_words.ensures)
