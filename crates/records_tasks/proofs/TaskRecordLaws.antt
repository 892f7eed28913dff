-- A record and the task that it stands for: each is read back from the other, and a record that does not fit has no canonical words.
use Rattle.std.specs.Prelude.{◌≡◌, refl, true, false, List, ℕ, ◌+◌, ◌*◌, ◌≤◌, length}
use Rattle.std.proofs.Common.{sym, ap, ◌∙◌, true≢false}
use Rattle.asyncio.specs.Options.{OptionValue}
use Rattle.std.specs.Prelude.{None, Some}
use Rattle.asyncio.specs.declared.Task.{Task}
use Rattle.asyncio.specs.declared.TaskState.{TaskState}
use Rattle.rows.specs.Tables.{task_codec, task_start, task_put}
use Rattle.rows.specs.RowLaws.{row-put_at}
use Rattle.rows.specs.Canonical.{same_words, task_canonical}
use Rattle.records_tasks.specs.declared.RecordState.{RecordState}
use Rattle.records_tasks.specs.declared.TaskRecord.{TaskRecord}
use Rattle.records_tasks.specs.TaskRecord.{state_in, delivered_in, record_of, fit_together, fits, state_with, unfit_task, task_of}

-- ---- from a task to its record and back

fits_back : (s : TaskState) → fit_together (state_in s) (delivered_in s) ≡ true
fits_back TaskState.Absent = refl
fits_back TaskState.Unstarted = refl
fits_back TaskState.Running = refl
fits_back (TaskState.Woken v) = refl
fits_back (TaskState.Raised e) = refl
fits_back (TaskState.Blocked o) = refl

state_back : (s : TaskState) → state_with (state_in s) (delivered_in s) ≡ s
state_back TaskState.Absent = refl
state_back TaskState.Unstarted = refl
state_back TaskState.Running = refl
state_back (TaskState.Woken v) = refl
state_back (TaskState.Raised e) = refl
state_back (TaskState.Blocked o) = refl

-- the record of a task fits
pub record_fits : (t : Task) → fits (record_of t) ≡ true
record_fits t = fits_back t.state

-- a task is what its record stands for
pub task_back : (t : Task) → task_of (record_of t) ≡ t
task_back t = rw (fits_back t.state, state_back t.state)

-- ---- from a record to its task and back

no_fit : {A : Type 0} → false ≡ true → A
no_fit e = absurd (true≢false (sym e))

state_kept : (s : RecordState) (x : OptionValue) → fit_together s x ≡ true → state_in (state_with s x) ≡ s
state_kept RecordState.Absent x f = refl
state_kept RecordState.Unstarted x f = refl
state_kept RecordState.Running x f = refl
state_kept RecordState.Woken None f = no_fit f
state_kept RecordState.Woken (Some v) f = refl
state_kept (RecordState.Raised e) x f = refl
state_kept (RecordState.Blocked o) x f = refl

value-kept : (s : RecordState) (x : OptionValue) → fit_together s x ≡ true → delivered_in (state_with s x) ≡ x
value-kept RecordState.Absent None f = refl
value-kept RecordState.Absent (Some v) f = no_fit f
value-kept RecordState.Unstarted None f = refl
value-kept RecordState.Unstarted (Some v) f = no_fit f
value-kept RecordState.Running None f = refl
value-kept RecordState.Running (Some v) f = no_fit f
value-kept RecordState.Woken None f = no_fit f
value-kept RecordState.Woken (Some v) f = refl
value-kept (RecordState.Raised e) None f = refl
value-kept (RecordState.Raised e) (Some v) f = no_fit f
value-kept (RecordState.Blocked o) None f = refl
value-kept (RecordState.Blocked o) (Some v) f = no_fit f

-- a record that fits is the record of the task that it stands for
pub record_back : (r : TaskRecord) → fits r ≡ true → record_of (task_of r) ≡ r
record_back r f = rw (f, state_kept r.state r.delivered f, value-kept r.state r.delivered f)

-- ---- a record that does not fit

pub unfit_is : (r : TaskRecord) → fits r ≡ false → task_of r ≡ unfit_task
unfit_is r f = rw f

-- what is read from its words has other words
unfit_apart : same_words (task_codec.words (task_codec.reads (task_codec.words unfit_task))) (task_codec.words unfit_task) ≡ false
unfolding same_words
unfit_apart = refl

-- its words are not canonical
pub unfit_not_canonical : (w : List ℕ) (t : ℕ) (r : TaskRecord) → fits r ≡ false → t * 8 + 8 ≤ length w → task_canonical (task_put w t (task_of r)) t ≡ false
unfolding task_canonical task_put same_words
unfit_not_canonical w t r f h =
    ap (λ (x : Task). task_canonical (task_put w t x) t) (unfit_is r f)
    ∙ ap (λ (x : List ℕ). same_words (task_codec.words (task_codec.reads x)) x) (row-put_at task_codec w (task_start t) unfit_task h)
    ∙ unfit_apart
