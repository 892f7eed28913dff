use Rattle.machine.specs.Sound.{awaiter_blocked}
use Rattle.sound_tasks.specs.AwaiterLaws.{awaiter_fits, no_task}
use Rattle.sound_tasks.proofs.blocked.awaiter_blocked.Goals as goal

pub state_at-requires : goal.state_at-requires
state_at-requires c = (rw c.in-Task.is at (awaiter_fits c.args.objects.now c.args.o.0 c.awaiter_at.ensures))

pub returns-in-Task : goal.returns-in-Task
unfolding awaiter_blocked
returns-in-Task c = rw (← c.awaiter_at.ensures, c.in-Task.is, ← c.state_at.ensures) c.waits_for.ensures

pub returns-in_default : goal.returns-in_default
returns-in_default c = rw (← c.awaiter_at.ensures) (no_task _ _ _ c.in_default.not-Task)
