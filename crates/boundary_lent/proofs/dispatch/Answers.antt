use mathlib.Core.List.{[]}
use Rattle.queue.specs.Queue.{queue_of}
use Rattle.step_event.specs.EventOf.{event_of}
use Rattle.boundary_lent.proofs.BoundaryLaws.{leaves}
use Rattle.boundary_lent.proofs.dispatch.Goals as goal

pub returns : goal.returns
returns c =
    let g = c.give_back.ensures in
    rw (g.0, g.1)
    (leaves c.args.tasks.now c.args.objects.now c.args.places.now c.args.calls.now (queue_of c.args.ids.now c.args.len.now) (event_of c.args.items.now c.args.results.now c.args.event) c.dispatch-answered.result.answer (c.dispatch-answered.ensures []) g.2)
