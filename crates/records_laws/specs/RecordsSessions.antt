-- Sessions over task records: an accepted beginning, then events and reads, each on the memory as the last one left it. As machine/specs/Sessions.antt has
-- them over words.
use Rattle.std.specs.Prelude.{ℕ, ◌≡◌, List, [], ◌∷◌, length}
use Rattle.asyncio.specs.Limits.{task_limit, objects_length, places_length}
use Rattle.asyncio.specs.States.{pick}
use Rattle.machine.specs.Machine.{Answer}
use Rattle.machine.specs.Sessions.{Sent, is_read}
use Rattle.records_session.specs.Records.{Records, records_step, records_begin, records_read}

-- what one event answers: the entry that is called
unfoldable pub records_answer : Records → Sent → Answer
records_answer m x = pick (is_read x.event) (records_read m x.event) (records_step m x.list x.event).answer

-- and leaves; a read leaves all
unfoldable pub records_left : Records → Sent → Records
records_left m x = pick (is_read x.event) m (records_step m x.list x.event).memory

-- A session so far: the memory, and the answers, the last first.
pub record RecordsSession : Type 0 where
  pub memory : Records
  pub answers : List Answer

-- one event more
unfoldable pub records_send : RecordsSession → Sent → RecordsSession
records_send y x = record { memory = records_left y.memory x; answers = records_answer y.memory x ∷ y.answers }

-- a list of events
unfoldable pub records_send_all : RecordsSession → List Sent → RecordsSession
records_send_all y [] = y
records_send_all y (x ∷ xs) = records_send_all (records_send y x) xs

-- from a beginning on this memory
unfoldable pub records_session : Records → List Sent → RecordsSession
records_session m es = records_send_all (record { memory = (records_begin m).0; answers = [] }) es

-- the slices have document 01's lengths: the beginning is accepted
pub record Lengths (m : Records) : Type 0 where
  pub tasks_right : length m.tasks ≡ task_limit
  pub objects_right : length m.objects ≡ objects_length
  pub places_right : length m.places ≡ places_length
