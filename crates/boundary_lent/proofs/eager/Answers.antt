use mathlib.Core.Path.{ap}
use mathlib.Core.List.{[]}
use Rattle.machine.specs.Lent.{Read}
use Rattle.boundary_lent.specs.Boundary.{store_in}
use Rattle.boundary_lent.proofs.BoundaryLaws.{eager_numbers}
use Rattle.boundary_lent.proofs.eager.Goals as goal

pub returns : goal.returns
returns c = eager_numbers (store_in c.args.tasks.now c.args.objects.now c.args.places.now c.args.ids.now c.args.len) c.args.objects.now c.eager.result c.numbers_of.ensures (ap (λ (x : Read). x.answer) (c.eager.ensures []))
