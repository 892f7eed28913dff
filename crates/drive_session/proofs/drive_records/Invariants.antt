use Prim.Native.Nat.{◌-◌}
use mathlib.Core.Path.{◌≡◌}
use lib.ListN.{length}
use Rattle.drive_text.specs.Out.{out_of}
use Rattle.drive_session.specs.LeftLaws.{Left}
use Rattle.drive_session.proofs.drive_records.Given as goal

abbrev pub invariant-loop-driven : goal.invariant-loop-driven
invariant-loop-driven l =
    Left l.initial.calls l.src (out_of l.initial.out 0) l.tasks l.objects l.places l.calls l.queue l.from l.number (out_of l.out l.at) × (length l.tasks ≡ length l.initial.tasks) × (length l.objects ≡ length l.initial.objects) × (length l.places ≡ length l.initial.places) × (length l.calls ≡ length l.initial.calls) × (length l.out ≡ length l.initial.out)

abbrev pub decreases-loop-driven : goal.decreases-loop-driven
decreases-loop-driven l =
    length l.src - l.from
