-- What a call that makes an object asks, and what it does.
use Rattle.std.specs.Prelude.{◌≡◌, ℕ, ◌<◌, ◌≤◌, ◌+◌}
use Rattle.asyncio.specs.Limits.{object_limit, place_limit, call_limit}
use Rattle.asyncio.specs.declared.HeapId.{HeapId}
use Rattle.rows.specs.Tables.{header_at}
use Rattle.machine.specs.Store.{Store}
use Rattle.contract.specs.Contract.{Words, Slice, ChangesObjects, ChangesObjectsAndPlaces}

-- there is a number for one object more
abbrev pub HasRoom : Words → Type 0
HasRoom objects = (header_at objects).made < object_limit

-- and for one call more
abbrev pub HasCall : Words → Type 0
HasCall objects = (header_at objects).calls < call_limit

-- and n places are left
abbrev pub HasPlaces : Words → ℕ → Type 0
HasPlaces objects n = (header_at objects).used + n ≤ place_limit

-- The call makes an object, as f does, and answers its number.
abbrev pub MakesObject : Slice → (Store → Store) → HeapId → Type 0
MakesObject objects f r = (r.0 ≡ (header_at objects.entry.now).made) × ChangesObjects objects f

-- The same of a gather, which has places.
abbrev pub MakesGather : Slice → Slice → (Store → Store) → HeapId → Type 0
MakesGather objects places f r = (r.0 ≡ (header_at objects.entry.now).made) × ChangesObjectsAndPlaces objects places f
