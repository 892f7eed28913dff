use Rattle.std.specs.Prelude.{[]}
use Prim.Native.Nat.{◌-◌}
use mathlib.Core.Path.{◌≡◌}
use mathlib.Core.List.{List}
use lib.ListN.{length}
use Rattle.machine.specs.Store.{LogEntry, store_of}
use Rattle.machine_theorems.specs.Soundness.Stores.{SoundStore}
use Rattle.drive_window.specs.Window.{drive_window}
use Rattle.drive_window.specs.TakenLaws.{Taken}
use Rattle.drive_window.proofs.drive_window.Given as goal

abbrev pub invariant-loop-left_queue : goal.invariant-loop-left_queue
invariant-loop-left_queue l =
    ((k : List LogEntry) → Taken l.ended l.initial.out (drive_window l.ended (length l.initial.out) (store_of l.initial.tasks l.initial.objects l.initial.places l.initial.driven.queue k) l.initial.calls l.src l.from l.number) l.src l.tasks l.objects l.places l.calls l.out l.driven.queue l.driven.next l.driven.at l.count) × SoundStore (store_of l.tasks l.objects l.places l.driven.queue []) × (length l.tasks ≡ length l.initial.tasks) × (length l.objects ≡ length l.initial.objects) × (length l.places ≡ length l.initial.places) × (length l.calls ≡ length l.initial.calls) × (length l.out ≡ length l.initial.out)

abbrev pub decreases-loop-left_queue : goal.decreases-loop-left_queue
decreases-loop-left_queue l = length l.src - l.driven.next
