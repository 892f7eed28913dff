-- What the exported functions promise: the memory that a host has after the call, and the numbers of the answer, are the machine's.
use Rattle.std.specs.Prelude.{ℕ, ◌≡◌, Bool, true, List, []}
use Rattle.queue.specs.Queue.{queue_of}
use Rattle.machine.specs.Store.{Store, store_of, fresh}
use Rattle.machine.specs.Sound.{sound}
use Rattle.machine.specs.Machine.{Event, Answer}
use Rattle.machine.specs.Lent.{Lent, lent_step, lent_read}
use Rattle.contract.specs.Contract.{kept, Words, Slice, Count}
use Rattle.boundary_numbers.specs.declared.Numbers.{Numbers}
use Rattle.boundary_numbers.specs.Numbers.{numbers_as, place_as}

-- What a host holds after an event: the memory of the session, the list of calls, and the numbers of the answer.
pub record Memory : Type 0 where
  pub tasks : List ℕ
  pub objects : List ℕ
  pub places : List ℕ
  pub calls : List ℕ
  pub ids : List ℕ
  pub len : ℕ
  pub numbers : Numbers

-- what an event leaves
abbrev pub memory_of : Lent → Memory
memory_of x = record {
  tasks = x.store.tasks;
  objects = x.store.objects;
  places = x.store.places;
  calls = x.list;
  ids = x.store.queue.ids;
  len = x.store.queue.len;
  numbers = numbers_as x.answer;
}

-- the store of a session's memory
abbrev pub store_in : List ℕ → List ℕ → List ℕ → List ℕ → ℕ → Store
store_in ts os ps is n = store_of ts os ps (queue_of is n) []

-- an event
unfoldable pub memory_step : List ℕ → List ℕ → List ℕ → List ℕ → List ℕ → ℕ → Event → Memory
memory_step ts os ps cs is n e = memory_of (lent_step (store_in ts os ps is n) cs e)

-- ---- the forms

-- The call is the event e on the memory: what it leaves and answers, refused or not, is what `lent_step` does.
abbrev pub BoundaryStep : Slice → Slice → Slice → Slice → Slice → Count → Event → Numbers → Type 0
BoundaryStep tasks objects places calls ids len e r =
    record {
      tasks = tasks.exit.now;
      objects = objects.exit.now;
      places = places.exit.now;
      calls = calls.exit.now;
      ids = ids.exit.now;
      len = len.exit.now;
      numbers = r;
    }
    ≡ memory_step tasks.entry.now objects.entry.now places.entry.now calls.entry.now ids.entry.now len.entry.now e

-- what a read of the memory answers
abbrev pub read_answer : Slice → Slice → Slice → Slice → ℕ → Event → Answer
read_answer tasks objects places ids len e =
    (lent_read (store_in tasks.entry.now objects.entry.now places.entry.now ids.entry.now len) e).answer

-- The call is the read e.
abbrev pub BoundaryRead : Words → Words → Words → Words → ℕ → Event → Numbers → Type 0
BoundaryRead tasks objects places ids len e r = r ≡ numbers_as (read_answer (kept tasks) (kept objects) (kept places) (kept ids) len e)

-- The call reads place i of what object o shows.
abbrev pub BoundaryPlace : Words → Words → Words → Words → ℕ → ℕ → ℕ → Numbers → Type 0
BoundaryPlace tasks objects places ids len o i r = r ≡ place_as (read_answer (kept tasks) (kept objects) (kept places) (kept ids) len (Event.show o)) i

-- The call leaves a fresh session.
abbrev pub BoundaryBegin : Slice → Slice → Slice → Slice → Count → Type 0
BoundaryBegin tasks objects places ids len =
    store_in tasks.exit.now objects.exit.now places.exit.now ids.exit.now len.exit.now ≡ fresh

-- is the memory a sound store?
abbrev pub is_sound_lent : Words → Words → Words → Words → ℕ → Bool
is_sound_lent tasks objects places ids len = sound (store_in tasks objects places ids len)

-- What an event without the check asks: a sound store.
abbrev pub SoundLent : Words → Words → Words → Words → ℕ → Type 0
SoundLent tasks objects places ids len = sound (store_in tasks objects places ids len) ≡ true

-- The same of a read, which takes the count by value.
abbrev pub SoundRead : Words → Words → Words → Words → ℕ → Type 0
SoundRead tasks objects places ids len = sound (store_in tasks objects places ids len) ≡ true
