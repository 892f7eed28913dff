-- A host's session through the exported functions: each event and read on the memory as the last one left it, the list of calls too, and the numbers of each
-- answer. (`place`, a part of show's answer, writes nothing and is left out.)
use Rattle.std.specs.Prelude.{ℕ, List, [], ◌∷◌}
use Rattle.asyncio.specs.States.{pick}
use Rattle.machine.specs.Store.{Store}
use Rattle.machine.specs.Machine.{Event}
use Rattle.machine.specs.Lent.{lent_read}
use Rattle.machine.specs.Sessions.{Sent, is_read}
use Rattle.boundary_numbers.specs.declared.Numbers.{Numbers}
use Rattle.boundary_numbers.specs.Numbers.{numbers_as}
use Rattle.boundary_lent.specs.Boundary.{Memory, store_in, memory_step}

-- the store that a host's memory is
abbrev pub store_held : Memory → Store
store_held m = store_in m.tasks m.objects m.places m.ids m.len

-- what an event leaves (`BoundaryStep`)
abbrev pub after_event : Memory → Event → Memory
after_event m e = memory_step m.tasks m.objects m.places m.calls m.ids m.len e

-- a read leaves the memory, and answers (`BoundaryRead`)
abbrev pub after_read : Memory → Event → Memory
after_read m e = record {
  tasks = m.tasks;
  objects = m.objects;
  places = m.places;
  calls = m.calls;
  ids = m.ids;
  len = m.len;
  numbers = numbers_as (lent_read (store_held m) e).answer;
}

-- the function that is called
unfoldable pub after_any : Memory → Event → Memory
after_any m e = pick (is_read e) (after_read m e) (after_event m e)

-- A host's session so far: its memory, and the numbers of each answer, the last first.
pub record HostSession : Type 0 where
  pub memory : Memory
  pub told : List Numbers

-- one event more
unfoldable pub host_send : HostSession → Event → HostSession
host_send x e = record { memory = after_any x.memory e; told = (after_any x.memory e).numbers ∷ x.told }

-- a list of events
unfoldable pub host_send_all : HostSession → List Event → HostSession
host_send_all x [] = x
host_send_all x (e ∷ es) = host_send_all (host_send x e) es

-- from memory that `sozgarru_begin` filled
unfoldable pub host_session : Memory → List Event → HostSession
host_session m es = host_send_all (record { memory = m; told = [] }) es

-- the events as they are sent: each with the host's list as the last wait left it
unfoldable pub sent_by : Memory → List Event → List Sent
sent_by m [] = []
sent_by m (e ∷ es) = record { event = e; list = m.calls } ∷ sent_by (after_any m e) es
