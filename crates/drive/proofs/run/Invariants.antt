use Rattle.std.specs.Prelude.{[]}
use Rattle.std.proofs.Common.{◌-◌, ◌≤◌, ◌≡◌, length}
use Rattle.machine.specs.Store.{store_of}
use Rattle.machine_theorems.specs.Soundness.Stores.{SoundStore}
use Rattle.drive_window.specs.Run.{Stands}
use Rattle.drive.proofs.run.Given as goal

abbrev pub invariant-loop-number : goal.invariant-loop-number
invariant-loop-number l =
    SoundStore (store_of l.tasks l.objects l.places l.queue []) × (length l.calls ≡ 256)
    × (length l.src ≤ l.input.filled → 3574 ≤ l.input.filled - l.input.from)
    × (length l.src ≡ length l.initial.src)
    × (length l.out ≡ length l.initial.out)
    × Stands (length l.initial.out) l.tasks l.objects l.places l.calls l.src l.queue l.input.from l.input.filled l.number

abbrev pub decreases-loop-number : goal.decreases-loop-number
decreases-loop-number l = 18446744073709551615 - l.number
