use mathlib.Core.Path.{◌≡◌}
use mathlib.Core.List.{[]}
use Prim.Native.Nat.{◌+◌, ◌*◌, ◌≤◌, ◌<◌}
use lib.ListN.{length}
use Rattle.asyncio.specs.Limits.{object_limit, tasks_length, objects_length, places_length}
use Rattle.machine.specs.Store.{store_of}
use Rattle.machine.specs.Commit.{pending_in}
use Rattle.machine_laws.specs.Statements.{Placed, commit_rest}
use Rattle.exec_commit.specs.Steps.{frame}
use Rattle.exec_commit.specs.Frames.{GoesOn}
use Rattle.exec_commit.specs.Stack.{stack_of}
use Rattle.exec_commit.proofs.tree.commit_gather_tree.Given as goal

abbrev pub invariant-loop-at : goal.invariant-loop-at
invariant-loop-at l = GoesOn (λ k. commit_rest (store_of l.initial.tasks l.initial.objects l.initial.places l.initial.queue k) (frame l.initial.top.gather.0 0) [] 0 1 0) l.tasks l.objects l.places l.queue (frame l.top.gather.0 l.top.next) (stack_of l.waiting) l.steps
    × Placed (store_of l.tasks l.objects l.places l.queue []) (stack_of l.waiting)
    × (length l.tasks ≡ tasks_length) × (length l.objects ≡ objects_length) × (length l.places ≡ places_length) × (l.top.gather.0 < object_limit)
    × (length (stack_of l.waiting) + pending_in l.objects ≤ object_limit) × (l.steps + (2 * pending_in l.objects + length (stack_of l.waiting)) ≤ 512)

abbrev pub decreases-loop-at : goal.decreases-loop-at
decreases-loop-at l = 2 * pending_in l.objects + length (stack_of l.waiting)
