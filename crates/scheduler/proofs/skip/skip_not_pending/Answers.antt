use borrow.Author.Rules.{rules}
use Rattle.scheduler.specs.Skips.{is_pending}
use Rattle.scheduler.proofs.skip.skip_not_pending.Goals as goal

pub returns : goal.returns
returns c = c.skip.ensures (is_pending c.args.objects.now) (λ h r l e. search rules)
