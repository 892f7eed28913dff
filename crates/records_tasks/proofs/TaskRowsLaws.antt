-- The rows of records: how they are laid out and saved one after the other, and that no store with a row of a record that does not fit is sound.
use Rattle.std.specs.Prelude.{◌≡◌, refl, List, ℕ, zero, suc, ◌+◌, length, set, get_or, replicate}
use Rattle.std.proofs.Common.{ap, ◌∙◌, add-one, length-set}
use Rattle.asyncio.specs.Limits.{tasks_length}
use Rattle.rows.specs.Tables.{task_at, task_put}
use Rattle.rows.specs.TableLaws.{length-task_put}
use Rattle.records_tasks.specs.declared.TaskRecord.{TaskRecord}
use Rattle.records_tasks.specs.TaskRecord.{no_record, record_of, task_of}
use Rattle.records_tasks.specs.TaskRows.{loaded, rows_of, saved}

pub loaded-none : (ts : List TaskRecord) (w : List ℕ) → loaded ts 0 w ≡ w
unfolding loaded
loaded-none ts w = refl

pub loaded-one : (ts : List TaskRecord) (n : ℕ) (w : List ℕ) → loaded ts (n + 1) w ≡ task_put (loaded ts n w) n (task_of (get_or ts n no_record))
unfolding loaded
loaded-one ts n w = ap (λ (k : ℕ). loaded ts k w) (add-one n)

pub rows_are : (ts : List TaskRecord) (n : ℕ) → loaded ts n (replicate tasks_length 0) ≡ rows_of ts n
unfolding rows_of
rows_are ts n = refl

pub rows-none : (ts : List TaskRecord) → rows_of ts 0 ≡ replicate tasks_length 0
unfolding rows_of
rows-none ts = loaded-none ts (replicate tasks_length 0)

pub rows-one : (ts : List TaskRecord) (n : ℕ) → rows_of ts (n + 1) ≡ task_put (rows_of ts n) n (task_of (get_or ts n no_record))
unfolding rows_of
rows-one ts n = loaded-one ts n (replicate tasks_length 0)

pub length-loaded : (ts : List TaskRecord) (n : ℕ) (w : List ℕ) → length (loaded ts n w) ≡ length w
unfolding loaded
length-loaded ts zero w = refl
length-loaded ts (suc n) w = length-task_put (loaded ts n w) n (task_of (get_or ts n no_record)) ∙ length-loaded ts n w

pub saved-none : (w : List ℕ) (ts : List TaskRecord) → saved w 0 ts ≡ ts
unfolding saved
saved-none w ts = refl

pub saved-one : (w : List ℕ) (n : ℕ) (ts : List TaskRecord) → saved w (n + 1) ts ≡ set (saved w n ts) n (record_of (task_at w n))
unfolding saved
saved-one w n ts = ap (λ (k : ℕ). saved w k ts) (add-one n)

pub length-saved : (w : List ℕ) (n : ℕ) (ts : List TaskRecord) → length (saved w n ts) ≡ length ts
unfolding saved
length-saved w zero ts = refl
length-saved w (suc n) ts = length-set (saved w n ts) n (record_of (task_at w n)) ∙ length-saved w n ts
