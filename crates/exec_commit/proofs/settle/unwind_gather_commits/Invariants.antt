use mathlib.Core.Path.{◌≡◌}
use mathlib.Core.List.{List}
use Prim.Native.Nat.{ℕ, ◌≤◌}
use lib.ListN.{length}
use Rattle.asyncio.specs.Limits.{object_limit}
use Rattle.queue.specs.declared.ReadyQueue.{ReadyQueue}
use Rattle.machine.specs.Store.{LogEntry, store_of}
use Rattle.machine.specs.Commit.{unwind}
use Rattle.exec_commit.specs.Frames.{GathersFit}
use Rattle.exec_commit.specs.Stack.{stack_of}
use Rattle.exec_commit.proofs.settle.unwind_gather_commits.Given as goal

abbrev pub invariant-loop-frame : goal.invariant-loop-frame
invariant-loop-frame l = ((ts ps : List ℕ) (q : ReadyQueue) (k : List LogEntry) → unwind (store_of ts l.objects ps q k) (stack_of l.waiting) l.error ≡ unwind (store_of ts l.initial.objects ps q k) (stack_of l.initial.waiting) l.error)
    × GathersFit (stack_of l.waiting) × (length (stack_of l.waiting) ≤ object_limit)

abbrev pub decreases-loop-frame : goal.decreases-loop-frame
decreases-loop-frame l = length (stack_of l.waiting)
