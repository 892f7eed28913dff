use mathlib.Core.List.{[]}
use mathlib.Core.Path.{◌∙◌}
use native.Mathlib.Omega.{arith}
use Rattle.queue.specs.Queue.{empty_queue}
use Rattle.exec_deliver.specs.ClimbLaws.{error-nobody, error-to_task, error-stays, error_climbs, error-fits, error-falls, some-places, some_places_long}
use Rattle.exec_deliver.proofs.climb.deliver_awaiter_failure.Goals as goal

pub returns-in-Nobody : goal.returns-in-Nobody
returns-in-Nobody c = λ q ps l z. error-nobody c.loop-to.tasks c.loop-to.objects ps q c.args.error l (rw c.in-Nobody.is at (c.loop-to.invariant.0 q ps l z))

pub returns-in-Task : goal.returns-in-Task
returns-in-Task c = λ q ps l z. error-to_task c.loop-to.tasks c.loop-to.objects ps q c.args.error l c.in-Task.t (rw c.in-Task.is at (c.loop-to.invariant.0 q ps l z)) c.deliver_to_task.result (c.deliver_to_task.ensures q c.loop-to.objects ps l)

pub returns-in_err-to-in-GatherSlot : goal.returns-in_err-to-in-GatherSlot
returns-in_err-to-in-GatherSlot c = λ q ps l z. rw c.from_residual.ensures (error-stays c.loop-to.tasks c.loop-to.objects ps q c.args.error c.in-GatherSlot.gather _ l (rw c.in-GatherSlot.is at (c.loop-to.invariant.0 q ps l z)) (rw c.in_err-to-in-GatherSlot.was at (c.fail.ensures c.loop-to.tasks ps q l)))

pub loop-to-smaller : goal.loop-to-smaller
loop-to-smaller c = omega (arith, error-falls c.loop-to.tasks c.loop-to.objects some-places empty_queue c.args.error c.in-GatherSlot.gather c.in-GatherSlot.gather _ c.loop-to.invariant.1 c.loop-to.invariant.2 some_places_long (rw c.in-GatherSlot.is at c.loop-to.invariant.3).0 [] (rw c.in_ok-to-in-GatherSlot.was at (c.fail.ensures c.loop-to.tasks some-places empty_queue [])))

pub loop-to-preserved : goal.loop-to-preserved
loop-to-preserved c = (
  (λ q ps l z. error_climbs c.loop-to.tasks c.loop-to.objects ps q c.args.error c.in-GatherSlot.gather _ _ c.loop-to.invariant.1 c.loop-to.invariant.2 z (rw c.in-GatherSlot.is at c.loop-to.invariant.3).0 l (rw c.in_ok-to-in-GatherSlot.was at (c.fail.ensures c.loop-to.tasks ps q l)) ∙ (rw c.in-GatherSlot.is at (c.loop-to.invariant.0 q ps l z))),
  c.loop-to.invariant.1,
  omega arith,
  error-fits c.loop-to.tasks c.loop-to.objects some-places empty_queue c.args.error c.in-GatherSlot.gather c.in-GatherSlot.gather _ c.loop-to.invariant.1 c.loop-to.invariant.2 some_places_long (rw c.in-GatherSlot.is at c.loop-to.invariant.3).0 [] (rw c.in_ok-to-in-GatherSlot.was at (c.fail.ensures c.loop-to.tasks some-places empty_queue [])),
)
