-- What the code answers, as the machine's records.
use Rattle.std.specs.Prelude.{ℕ, None, Some}
use Rattle.std.proofs.Math.Option.{Option, none, some}
use Rattle.std.specs.Prelude as rust
use Rattle.asyncio.specs.declared.Awaiter.{Awaiter}
use Rattle.scheduler.specs.Search.{FoundTask}
use Rattle.machine.specs.Store.{Store}
use Rattle.machine.specs.Delivery.{Delivery, Settled}
use Rattle.contract.specs.Contract.{Slice, DoesOfObjects, DoesOfObjectsAndPlaces}

-- the number of a task that was found, or none
abbrev pub number : FoundTask → Option ℕ
number (Some t) = some t.0
number None = none

-- a store, and the task that was woken
abbrev pub delivered : Store → FoundTask → Delivery
delivered s w = record { store = s; woken = number w }

-- where a gather's result goes on to, if it does: not where it was settled before or still waits
abbrev pub Onward : Type 0
Onward = rust.Option Awaiter

-- where a gather's result goes on to
abbrev pub onward_of : Onward → Option Awaiter
onward_of None = none
onward_of (Some w) = some w

-- a store, and where a settled gather's result goes on to
abbrev pub settled : Store → Onward → Settled
settled s o = record { store = s; onward = onward_of o }

-- The call puts a result into a gather, as f does.
abbrev pub Settles : Slice → Slice → (Store → Settled) → Onward → Type 0
Settles objects places f r = DoesOfObjectsAndPlaces objects places (λ s. settled s r) f

-- The same of a call that does not take the places.
abbrev pub SettlesKeepingPlaces : Slice → (Store → Settled) → Onward → Type 0
SettlesKeepingPlaces objects f r = DoesOfObjects objects (λ s. settled s r) f
