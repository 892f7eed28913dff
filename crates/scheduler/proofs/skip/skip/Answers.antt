use mathlib.Core.Path.{sym, ◌∙◌}
use native.Mathlib.Omega.{arith}
use Rattle.scheduler.specs.SkipLaws.{begins, begins_further}
use Rattle.scheduler.proofs.skip.skip.Goals as goal

pub loop-o-init : goal.loop-o-init
loop-o-init g c = (omega arith, λ p t. begins p c.args.made)

pub loop-o-preserved : goal.loop-o-preserved
loop-o-preserved g c = (omega arith, λ p t. begins_further p c.args.made c.loop-o.o g.row.N (c.loop-o.invariant.1 p t) (omega arith) (sym (c.any_of.ensures p t) ∙ c.if-any_of.false))
