-- Events, reads and the beginning on lent memory that has a slice of task records in place of the tasks' words.
use Rattle.std.specs.Prelude.{List, [], ℕ, eqb, length, replicate}
use Rattle.asyncio.specs.States.{pick}
use Rattle.asyncio.specs.Limits.{task_limit, tasks_length}
use Rattle.queue.specs.declared.ReadyQueue.{ReadyQueue}
use Rattle.machine.specs.Store.{store_of}
use Rattle.machine.specs.Machine.{Event, Answer, Step}
use Rattle.machine.specs.Answers.{Numbers, answer_numbers}
use Rattle.machine.specs.Lent.{Lent, Read, read_as, lent_step, lent_begin, lent_read}
use Rattle.records_tasks.specs.declared.TaskRecord.{TaskRecord}
use Rattle.records_tasks.specs.TaskRows.{rows_of, saved}
use Rattle.records_words.specs.RowsInUse.{next_in, rows_left, rows_begun}

-- The lent memory but the list of calls, and the queue.
pub record Records : Type 0 where
  pub tasks : List TaskRecord
  pub objects : List ℕ
  pub places : List ℕ
  pub queue : ReadyQueue

-- The memory and the call list after an event; the answer, document 01's numbers for it, and how many calls a wait has (0: it is none). As `Lent` is.
pub record RecordsLent : Type 0 where
  pub memory : Records
  pub list : List ℕ
  pub answer : Answer
  pub numbers : Numbers
  pub count : ℕ

-- ---- an event

-- the words go back into the records
abbrev pub gone_back : List TaskRecord → Lent → RecordsLent
gone_back ts x = record {
  memory = record {
    tasks = saved x.store.tasks (rows_left x.answer x.store.objects) ts;
    objects = x.store.objects;
    places = x.store.places;
    queue = x.store.queue;
  };
  list = x.list;
  answer = x.answer;
  numbers = x.numbers;
  count = x.count;
}

-- all unchanged, and a refusal
abbrev pub refused_as : Records → List ℕ → ℕ → RecordsLent
refused_as m cs n = record { memory = m; list = cs; answer = Answer.refused n; numbers = answer_numbers (Answer.refused n); count = 0 }

-- An event on lent records: 513 of them, or refusal 1. The rows of the records in use are laid out, the other words are 0.
unfoldable pub records_step : Records → List ℕ → Event → RecordsLent
records_step m cs e =
    pick (eqb (length m.tasks) task_limit)
    (gone_back m.tasks (lent_step (store_of (rows_of m.tasks (next_in m.objects)) m.objects m.places m.queue []) cs e))
    (refused_as m cs 1)

-- ---- the beginning

-- the words go back into the records, all of them
abbrev pub begun_with : List TaskRecord → Step → Records × Read
begun_with ts x = (
  record { tasks = saved x.store.tasks (rows_begun x.answer) ts; objects = x.store.objects; places = x.store.places; queue = x.store.queue },
  read_as x.answer,
)

-- A beginning on lent records: it meets only 1 and overwrites the rest.
unfoldable pub records_begin : Records → Records × Read
records_begin m =
    pick (eqb (length m.tasks) task_limit)
    (begun_with m.tasks (lent_begin (store_of (replicate tasks_length 0) m.objects m.places m.queue [])))
    (m, read_as (Answer.refused 1))

-- ---- a read

-- A read of lent records.
unfoldable pub records_read : Records → Event → Answer
records_read m e =
    pick (eqb (length m.tasks) task_limit)
    (lent_read (store_of (rows_of m.tasks (next_in m.objects)) m.objects m.places m.queue []) e).answer
    (Answer.refused 1)
