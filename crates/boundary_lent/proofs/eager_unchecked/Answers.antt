use mathlib.Core.List.{[]}
use Rattle.queue.specs.Queue.{queue_of}
use Rattle.machine.specs.Machine.{Event}
use Rattle.boundary_lent.specs.Boundary.{store_in}
use Rattle.boundary_lent.proofs.BoundaryLaws.{eager_numbers, reads_soundly, right_slices}
use borrow.Author.Rules.{rules}
use Rattle.boundary_lent.proofs.eager_unchecked.Goals as goal

pub returns : goal.returns
returns c =
    eager_numbers (store_in c.args.tasks.now c.args.objects.now c.args.places.now c.args.ids.now c.args.len) c.args.objects.now c.eager.result c.numbers_of.ensures
    (reads_soundly c.args.tasks.now c.args.objects.now c.args.places.now (queue_of c.args.ids.now c.args.len) Event.eager (right_slices _ _ _ _ (search rules) (search rules) (search rules)) (search rules) (c.eager.ensures c.args.tasks.now c.args.places.now []))
