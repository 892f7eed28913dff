use mathlib.Core.Path.{◌∙◌, ap}
use mathlib.Core.List.{[]}
use Rattle.queue.specs.Queue.{queue_of}
use Rattle.machine.specs.Machine.{Event, Answer}
use Rattle.boundary_numbers.specs.Numbers.{place_as}
use Rattle.boundary_lent.proofs.BoundaryLaws.{reads_soundly, right_slices}
use borrow.Author.Rules.{rules}
use Rattle.boundary_lent.proofs.place_unchecked.Goals as goal

pub returns : goal.returns
returns c =
    c.place_numbers.ensures
    ∙ ap (λ (x : Answer). place_as x c.args.place) (reads_soundly c.args.tasks.now c.args.objects.now c.args.places.now (queue_of c.args.ids.now c.args.len) (Event.show c.args.object) (right_slices _ _ _ _ (search rules) (search rules) (search rules)) (search rules) (c.show.ensures c.args.tasks.now c.args.places.now (queue_of c.args.ids.now c.args.len) []))
