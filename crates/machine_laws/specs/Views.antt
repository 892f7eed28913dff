-- Views with one row changed, and the lengths of the lent slices.
use Rattle.std.specs.Prelude.{◌≡◌, List, ℕ, eqb, length}
use Rattle.asyncio.specs.declared.Task.{Task}
use Rattle.asyncio.specs.declared.Object.{Object}
use Rattle.asyncio.specs.declared.Place.{Place}
use Rattle.asyncio.specs.declared.Header.{Header}
use Rattle.asyncio.specs.States.{pick}
use Rattle.asyncio.specs.Limits.{tasks_length, objects_length, places_length}
use Rattle.machine.specs.Store.{Store, View}

-- the slices have their lengths
pub record Sized (s : Store) : Type 0 where
  pub tasks_sized : length s.tasks ≡ tasks_length
  pub objects_sized : length s.objects ≡ objects_length
  pub places_sized : length s.places ≡ places_length

-- a table with row i written
unfoldable pub update : {R : Type 0} → (ℕ → R) → ℕ → R → ℕ → R
update f i r j = pick (eqb i j) r (f j)

-- task t is r
unfoldable pub with_task : View → ℕ → Task → View
with_task v t r = record { tasks = update v.tasks t r; objects = v.objects; places = v.places; header = v.header; queue = v.queue }

-- object o is r
unfoldable pub with_object : View → ℕ → Object → View
with_object v o r = record { tasks = v.tasks; objects = update v.objects o r; places = v.places; header = v.header; queue = v.queue }

-- place p is r
unfoldable pub with_place : View → ℕ → Place → View
with_place v p r = record { tasks = v.tasks; objects = v.objects; places = update v.places p r; header = v.header; queue = v.queue }

-- the places are ps
unfoldable pub with_places : View → (ℕ → Place) → View
with_places v ps = record { tasks = v.tasks; objects = v.objects; places = ps; header = v.header; queue = v.queue }

-- the header is h
unfoldable pub with_header : View → Header → View
with_header v h = record { tasks = v.tasks; objects = v.objects; places = v.places; header = h; queue = v.queue }

-- the entries of the queue are ts
unfoldable pub with_queue : View → List ℕ → View
with_queue v ts = record { tasks = v.tasks; objects = v.objects; places = v.places; header = v.header; queue = ts }
