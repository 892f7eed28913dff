use mathlib.Core.List.{[]}
use Rattle.boundary_lent.proofs.BoundaryLaws.{begins-fresh}
use borrow.Author.Rules.{rules}
use Rattle.boundary_lent.proofs.begin.Goals as goal

pub returns : goal.returns
returns c = begins-fresh c.args.tasks.now c.args.objects.now c.args.places.now _ (search rules) (search rules) (search rules) c.begin-begun.result.answer (c.begin-begun.ensures [])
