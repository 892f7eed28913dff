use borrow.Author.Rules.{rules}
use Rattle.machine.specs.Scheduler.{is_call}
use Rattle.scheduler.proofs.skip.skip_other_calls.Goals as goal

pub returns : goal.returns
returns c = c.skip.ensures (is_call c.args.objects.now c.args.call) (λ h r l e. search rules)
