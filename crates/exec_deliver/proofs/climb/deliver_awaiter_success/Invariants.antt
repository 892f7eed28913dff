use mathlib.Core.Path.{◌≡◌}
use mathlib.Core.List.{List}
use lib.ListN.{length}
use Rattle.asyncio.specs.Limits.{tasks_length, objects_length, places_length}
use Rattle.asyncio.specs.Ranges.{AwaiterFits}
use Rattle.queue.specs.declared.ReadyQueue.{ReadyQueue}
use Rattle.machine.specs.Store.{LogEntry, store_of}
use Rattle.machine.specs.Delivery.{deliver_awaiter_success, awaited_in}
use Rattle.exec_deliver.proofs.climb.deliver_awaiter_success.Given as goal

abbrev pub invariant-loop-to : goal.invariant-loop-to
invariant-loop-to l = ((q : ReadyQueue) (k : List LogEntry) → deliver_awaiter_success (store_of l.tasks l.objects l.places q k) l.to l.given ≡ deliver_awaiter_success (store_of l.initial.tasks l.initial.objects l.initial.places q k) l.initial.to l.initial.given)
    × (length l.tasks ≡ tasks_length) × (length l.objects ≡ objects_length) × (length l.places ≡ places_length) × AwaiterFits l.to

abbrev pub decreases-loop-to : goal.decreases-loop-to
decreases-loop-to l = awaited_in l.objects
