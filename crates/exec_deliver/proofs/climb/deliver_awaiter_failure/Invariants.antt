use mathlib.Core.Path.{◌≡◌}
use mathlib.Core.List.{List}
use Prim.Native.Nat.{ℕ}
use lib.ListN.{length}
use Rattle.asyncio.specs.Limits.{tasks_length, objects_length, places_length}
use Rattle.asyncio.specs.Ranges.{AwaiterFits}
use Rattle.queue.specs.declared.ReadyQueue.{ReadyQueue}
use Rattle.machine.specs.Store.{LogEntry, store_of}
use Rattle.machine.specs.Delivery.{deliver_awaiter_failure, awaited_in}
use Rattle.exec_deliver.proofs.climb.deliver_awaiter_failure.Given as goal

abbrev pub invariant-loop-to : goal.invariant-loop-to
invariant-loop-to l = ((q : ReadyQueue) (ps : List ℕ) (k : List LogEntry) → length ps ≡ places_length → deliver_awaiter_failure (store_of l.tasks l.objects ps q k) l.to l.error ≡ deliver_awaiter_failure (store_of l.initial.tasks l.initial.objects ps q k) l.initial.to l.error)
    × (length l.tasks ≡ tasks_length) × (length l.objects ≡ objects_length) × AwaiterFits l.to

abbrev pub decreases-loop-to : goal.decreases-loop-to
decreases-loop-to l = awaited_in l.objects
