use Rattle.machine.specs.Scheduler.{is_call}
use Rattle.scheduler.proofs.tasks.is_call.Goals as goal

pub returns-then-is_pending : goal.returns-then-is_pending
unfolding is_call
returns-then-is_pending c = rw (← c.is_pending.ensures, c.if-is_pending.true, c.word.ensures, c.from.ensures, c.call_at.ensures)

pub returns-else-is_pending : goal.returns-else-is_pending
unfolding is_call
returns-else-is_pending c = rw (← c.is_pending.ensures, c.if-is_pending.false)
