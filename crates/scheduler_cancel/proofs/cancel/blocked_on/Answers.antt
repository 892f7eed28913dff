use Rattle.machine.specs.Scheduler.{blocked_on}
use Rattle.scheduler_cancel.proofs.Cases.{not_blocked}
use Rattle.scheduler_cancel.proofs.cancel.blocked_on.Goals as goal

pub returns-in-Blocked : goal.returns-in-Blocked
unfolding blocked_on
returns-in-Blocked c = cc

pub returns-in_default : goal.returns-in_default
returns-in_default c = not_blocked c.args.state c.in_default.not-Blocked
