use mathlib.Core.List.{[]}
use mathlib.Core.Path.{◌∙◌}
use native.Mathlib.Omega.{arith}
use Rattle.queue.specs.Queue.{empty_queue}
use Rattle.exec_deliver.specs.ClimbLaws.{nobody, to_task, stays, climbs, climb-fits, climb-falls}
use Rattle.exec_deliver.proofs.climb.deliver_awaiter_success.Goals as goal

pub returns-in-Nobody : goal.returns-in-Nobody
returns-in-Nobody c = λ q l. nobody c.loop-to.tasks c.loop-to.objects c.loop-to.places q l c.loop-to.given (rw c.in-Nobody.is at (c.loop-to.invariant.0 q l))

pub returns-in-Task : goal.returns-in-Task
returns-in-Task c = λ q l. to_task c.loop-to.tasks c.loop-to.objects c.loop-to.places q l c.in-Task.t c.loop-to.given (rw c.in-Task.is at (c.loop-to.invariant.0 q l)) c.deliver_to_task.result (c.deliver_to_task.ensures q c.loop-to.objects c.loop-to.places l)

pub returns-in_err-to-in-GatherSlot : goal.returns-in_err-to-in-GatherSlot
returns-in_err-to-in-GatherSlot c = λ q l. rw c.from_residual.ensures (stays c.loop-to.tasks c.loop-to.objects c.loop-to.places q c.in-GatherSlot.gather c.in-GatherSlot.source c.loop-to.given l (rw c.in-GatherSlot.is at (c.loop-to.invariant.0 q l)) (rw c.in_err-to-in-GatherSlot.was at (c.resolve_child.ensures c.loop-to.tasks q l)))

pub loop-to-smaller : goal.loop-to-smaller
loop-to-smaller c = omega (arith, climb-falls c.loop-to.tasks c.loop-to.objects c.loop-to.places empty_queue c.in-GatherSlot.gather c.in-GatherSlot.source c.loop-to.given _ c.loop-to.invariant.1 c.loop-to.invariant.2 c.loop-to.invariant.3 (rw c.in-GatherSlot.is at c.loop-to.invariant.4).0 [] (rw c.in_ok-to-in-GatherSlot.was at (c.resolve_child.ensures c.loop-to.tasks empty_queue [])))

pub loop-to-preserved : goal.loop-to-preserved
loop-to-preserved c = (
  (λ q l. climbs c.loop-to.tasks c.loop-to.objects c.loop-to.places q c.in-GatherSlot.gather c.in-GatherSlot.source c.loop-to.given _ c.loop-to.invariant.1 c.loop-to.invariant.2 c.loop-to.invariant.3 (rw c.in-GatherSlot.is at c.loop-to.invariant.4).0 l (rw c.in_ok-to-in-GatherSlot.was at (c.resolve_child.ensures c.loop-to.tasks q l)) ∙ (rw c.in-GatherSlot.is at (c.loop-to.invariant.0 q l))),
  c.loop-to.invariant.1,
  omega arith,
  omega arith,
  climb-fits c.loop-to.tasks c.loop-to.objects c.loop-to.places empty_queue c.in-GatherSlot.gather c.in-GatherSlot.source c.loop-to.given _ c.loop-to.invariant.1 c.loop-to.invariant.2 c.loop-to.invariant.3 (rw c.in-GatherSlot.is at c.loop-to.invariant.4).0 [] (rw c.in_ok-to-in-GatherSlot.was at (c.resolve_child.ensures c.loop-to.tasks empty_queue [])),
)
