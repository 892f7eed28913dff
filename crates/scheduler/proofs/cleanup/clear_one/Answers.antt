use Rattle.machine.specs.Store.{absent}
use Rattle.scheduler.specs.Ends.{clear_one}
use Rattle.scheduler.proofs.cleanup.clear_one.Goals as goal

pub returns-then-is_live : goal.returns-then-is_live
unfolding clear_one absent
returns-then-is_live c = rw (← c.state_at.ensures, ← c.is_live.ensures, c.if-is_live.true, c.store_task.ensures, c.new.ensures)

pub returns-else-is_live : goal.returns-else-is_live
unfolding clear_one
returns-else-is_live c = rw (← c.state_at.ensures, ← c.is_live.ensures, c.if-is_live.false)
