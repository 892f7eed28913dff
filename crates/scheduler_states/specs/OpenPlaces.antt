-- A gather's open places, as the search for an object reads them.
use Rattle.std.specs.Prelude.{ℕ, Bool, ◌&&◌, eqb}
use Rattle.asyncio.specs.declared.Place.{Place}
use Rattle.machine.specs.Scheduler.{bit}

-- place p, which is place i of its gather, is open and names object o
abbrev pub open_here : (ℕ → Place) → ℕ → ℕ → ℕ → ℕ → Bool
open_here ps m p i o = bit m i && eqb (ps p).item.0 o
