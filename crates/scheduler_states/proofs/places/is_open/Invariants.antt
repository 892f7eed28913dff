use mathlib.Core.Path.{◌≡◌}
use Prim.Native.Nat.{◌-◌}
use Rattle.asyncio.specs.declared.Awaiter.{Awaiter}
use Rattle.rows.specs.Tables.{place_at}
use Rattle.machine.specs.Commit.{open_from}
use Rattle.scheduler_states.specs.Awaited.{awaited_gather}
use Rattle.scheduler_states.proofs.places.is_open.Given as goal

abbrev pub invariant-loop-i : goal.invariant-loop-i
invariant-loop-i l = (a : Awaiter) → open_from (place_at l.places) (awaited_gather l.first l.count a l.open_places) l.o.0 l.i (l.count - l.i) ≡ open_from (place_at l.places) (awaited_gather l.first l.count a l.open_places) l.o.0 0 l.count
