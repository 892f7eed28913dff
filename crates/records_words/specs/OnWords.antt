-- What is done on the words between laying out the records and saving them.
use Rattle.std.specs.Prelude.{◌≡◌, List, [], ℕ, ◌≤◌, eqb}
use Rattle.asyncio.specs.States.{pick}
use Rattle.asyncio.specs.Limits.{task_limit}
use Rattle.queue.specs.declared.ReadyQueue.{ReadyQueue}
use Rattle.machine.specs.Store.{Store}
use Rattle.machine.specs.Machine as machine
use Rattle.machine.specs.Machine.{Step}
use Rattle.machine.specs.Lent.{Lent, read_as, lent_as, lent_step, lent_begin, lent_read}
use Rattle.contract.specs.Contract.{Words, kept, Slice, before, DoesAt}
use Rattle.exec_switch.specs.Answer.{stepped_of}
use Rattle.exec_switch.specs.declared.answer.Stepped.{Stepped}
use Rattle.step_checks.specs.Lent.{lent_of}
use Rattle.step_event.specs.declared.Answered.{Answered}
use Rattle.records_words.specs.declared.Worked.{Worked}
use Rattle.records_words.specs.RowsInUse.{rows_left, rows_begun}

-- an event, and how many records are to be saved
abbrev pub with_rows : Lent → Lent × ℕ
with_rows x = (x, rows_left x.answer x.store.objects)

-- an event on the words of n records
unfoldable pub words_step : ℕ → Store → List ℕ → machine.Event → Lent × ℕ
words_step n s cs e = pick (eqb n task_limit) (with_rows (lent_step s cs e)) (lent_as s cs (machine.Answer.refused 1), 0)

-- The call is an event on the words of n records, with no log before it; no more records than there are will be saved.
abbrev pub WordsStep : ℕ → Slice → Slice → Slice → Slice → ReadyQueue → machine.Event → Worked Answered → Type 0
WordsStep n words objects places calls queue e r =
    (DoesAt [] (λ x. x.0.store.log) words objects places queue r.answered.queue
    (λ s. (lent_of s calls.exit.now r.answered.answer r.answered.calls, r.rows))
    (λ s. words_step n s calls.entry.now e))
    × (r.rows ≤ n)
    × (r.rows ≤ task_limit)

-- a beginning, and how many records are to be saved
abbrev pub begun_rows : Step → Step × ℕ
begun_rows x = (x, rows_begun x.answer)

-- a beginning on the words of n records
unfoldable pub words_begin : ℕ → Store → Step × ℕ
words_begin n s = pick (eqb n task_limit) (begun_rows (lent_begin s)) (record { store = s; answer = machine.Answer.refused 1 }, 0)

-- The call is a beginning on the words of n records.
abbrev pub WordsBegin : ℕ → Slice → Slice → Slice → ReadyQueue → Worked Stepped → Type 0
WordsBegin n words objects places queue r =
    (DoesAt [] (λ x. x.0.store.log) words objects places queue r.answered.queue
    (λ s. (stepped_of s r.answered.answer, r.rows))
    (λ s. words_begin n s))
    × (r.rows ≤ n)
    × (r.rows ≤ task_limit)

-- a read of the words of n records
unfoldable pub words_read : ℕ → Store → machine.Event → machine.Answer
words_read n s e = pick (eqb n task_limit) (lent_read s e).answer (machine.Answer.refused 1)

-- The call is a read e of the words of n records.
abbrev pub WordsRead : ℕ → Words → Words → Words → ReadyQueue → machine.Event → machine.Answer → Type 0
WordsRead n words objects places queue e a = read_as a ≡ read_as (words_read n (before (kept words) (kept objects) (kept places) queue []) e)
