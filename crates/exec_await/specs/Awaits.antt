-- What a call of an await does.
use Rattle.std.specs.Prelude.{◌≡◌}
use Rattle.machine.specs.Store.{Store}
use Rattle.machine.specs.Events as machine
use Rattle.contract.specs.Contract.{Slice, Does, DoesKeepingPlaces, DoesOfObjects, LentQueue}
use Rattle.exec_switch.specs.Control.{awaited_of}
use Rattle.exec_await.specs.declared.Awaited.{Awaited}

-- The call awaits, as f does, with a lent queue.
abbrev pub Awaits : Slice → Slice → Slice → LentQueue → (Store → machine.Awaited) → Awaited → Type 0
Awaits tasks objects places queue f r =
    Does (λ x. x.store.log) tasks objects places queue.entry.now queue.exit.now (λ s. awaited_of s r.control r.steps) f

-- The same of a call that does not take the places.
abbrev pub AwaitsKeepingPlaces : Slice → Slice → LentQueue → (Store → machine.Awaited) → Awaited → Type 0
AwaitsKeepingPlaces tasks objects queue f r =
    DoesKeepingPlaces (λ x. x.store.log) tasks objects queue.entry.now queue.exit.now (λ s. awaited_of s r.control r.steps) f

-- The same of a call that takes the objects alone, and logs nothing: with every queue.
abbrev pub AwaitsOfObjects : Slice → (Store → machine.Awaited) → Awaited → Type 0
AwaitsOfObjects objects f r = DoesOfObjects objects (λ s. awaited_of s r.control r.steps) f

-- and of one that takes nothing of the store, and leaves it
abbrev pub AwaitsOfNothing : (Store → machine.Awaited) → Awaited → Type 0
AwaitsOfNothing f r = (s : Store) → awaited_of s r.control r.steps ≡ f s
