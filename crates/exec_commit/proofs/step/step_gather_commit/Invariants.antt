use mathlib.Core.Path.{◌≡◌}
use lib.ListN.{length}
use Rattle.asyncio.specs.Limits.{tasks_length, objects_length, places_length}
use Rattle.asyncio.specs.Parts.{count_of}
use Rattle.rows.specs.Tables.{object_at}
use Rattle.machine.specs.Store.{store_of}
use Rattle.machine.specs.Commit.{step_gather_commit}
use Rattle.exec_commit.specs.Steps.{WalksOn, frame}
use Rattle.exec_commit.proofs.step.step_gather_commit.Given as goal

abbrev pub invariant-loop-i : goal.invariant-loop-i
invariant-loop-i l = WalksOn (λ k. step_gather_commit (store_of l.initial.tasks l.initial.objects l.initial.places l.initial.queue k) (frame l.g.0 l.next)) l.tasks l.objects l.places l.queue l.g.0 l.i l.count
    × (length l.tasks ≡ tasks_length) × (length l.objects ≡ objects_length) × (length l.places ≡ places_length)
    × (l.count ≡ count_of (object_at l.objects l.g.0))
