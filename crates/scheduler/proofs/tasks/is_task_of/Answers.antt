use Rattle.machine.specs.Scheduler.{is_task_of}
use Rattle.scheduler.proofs.tasks.is_task_of.Goals as goal

pub returns-then-is_live : goal.returns-then-is_live
unfolding is_task_of
returns-then-is_live c = rw (← c.state_at.ensures, ← c.is_live.ensures, c.if-is_live.true, c.eq.ensures, c.coroutine_at.ensures)

pub returns-else-is_live : goal.returns-else-is_live
unfolding is_task_of
returns-else-is_live c = rw (← c.state_at.ensures, ← c.is_live.ensures, c.if-is_live.false)
