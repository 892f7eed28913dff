-- The tasks' words of a slice of records, and the records of words.
use Rattle.std.specs.Prelude.{List, ℕ, zero, suc, set, get_or, replicate}
use Rattle.asyncio.specs.Limits.{tasks_length}
use Rattle.rows.specs.Tables.{task_at, task_put}
use Rattle.records_tasks.specs.declared.TaskRecord.{TaskRecord}
use Rattle.records_tasks.specs.TaskRecord.{no_record, record_of, task_of}

-- the first n records, laid into words
unfoldable pub loaded : List TaskRecord → ℕ → List ℕ → List ℕ
loaded ts zero w = w
loaded ts (suc n) w = task_put (loaded ts n w) n (task_of (get_or ts n no_record))

-- the tasks' words of the first n records; the other rows are 0
unfoldable pub rows_of : List TaskRecord → ℕ → List ℕ
rows_of ts n = loaded ts n (replicate tasks_length 0)

-- the first n records made of the words; the others as they were
unfoldable pub saved : List ℕ → ℕ → List TaskRecord → List TaskRecord
saved w zero ts = ts
saved w (suc n) ts = set (saved w n ts) n (record_of (task_at w n))
