use Rattle.machine.specs.Machine.{shown}
use Rattle.step_read.specs.ReadLaws.{shows-places}
use Rattle.step_read.proofs.show_gather.Goals as goal

pub returns-in-Pending : goal.returns-in-Pending
unfolding shown
returns-in-Pending c = λ s. rw c.in-Pending.is

pub returns-in-Awaited : goal.returns-in-Awaited
unfolding shown
returns-in-Awaited c = λ s. rw (c.in-Awaited.is, shows-places s c.args.first _ c.args.count 0)

pub returns-in-Completed : goal.returns-in-Completed
unfolding shown
returns-in-Completed c = λ s. rw (c.in-Completed.is, shows-places s c.args.first 0 c.args.count 0)

pub returns-in-Failed : goal.returns-in-Failed
unfolding shown
returns-in-Failed c = λ s. rw c.in-Failed.is
