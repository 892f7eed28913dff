-- What the laws of proofs/RecordsAreSession.antt state.
use Rattle.std.specs.Prelude.{◌≡◌, ℕ, ◌<◌, length, get_or}
use mathlib.Core.List.{map}
use Rattle.asyncio.specs.Limits.{task_limit}
use Rattle.machine.specs.Store.{Store, header, task}
use Rattle.machine.specs.History.{Entry}
use Rattle.machine.specs.Sessions.{Session, session}
use Rattle.records_tasks.specs.TaskRecord.{no_record, record_of}
use Rattle.records_session.specs.Records.{Records}
use Rattle.records_laws.specs.RecordsSessions.{RecordsSession}

-- The memory is the store's: the slices and the queue are the same, and each record in use is its task's.
pub record SameStore (m : Records) (s : Store) : Type 0 where
  pub enough : length m.tasks ≡ task_limit
  pub objects_same : m.objects ≡ s.objects
  pub places_same : m.places ≡ s.places
  pub queue_same : m.queue ≡ s.queue
  pub records_same : (t : ℕ) → t < (header s).next → get_or m.tasks t no_record ≡ record_of (task s t)

-- The session is the machine's: the memory, and each answer.
pub record SameSession (x : RecordsSession) (y : Session) : Type 0 where
  pub memory_same : SameStore x.memory y.store
  pub answers_same : x.answers ≡ map (λ (e : Entry). e.answer) y.history
