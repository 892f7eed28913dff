-- Which records are in use: they are laid out in words before an event, and saved after it.
use Rattle.std.specs.Prelude.{Bool, true, false, List, ℕ, eqb, length}
use Rattle.asyncio.specs.States.{pick}
use Rattle.asyncio.specs.Limits.{task_limit, objects_length}
use Rattle.rows.specs.Tables.{header_at}
use Rattle.machine.specs.Machine as machine
use Rattle.exec_switch.specs.declared.answer.Answer.{Answer}

-- The number of the next task, as the header has it: the records below it are in use. None are where the objects have a wrong length, which is refused.
unfoldable pub next_in : List ℕ → ℕ
next_in os = pick (eqb (length os) objects_length) (header_at os).next 0

-- how many of n records are laid out: those in use, none unless there are 513
abbrev pub rows_in_use : ℕ → List ℕ → ℕ
rows_in_use n os = pick (eqb n task_limit) (next_in os) 0

-- is it a refusal?
abbrev pub is_refused : machine.Answer → Bool
is_refused (machine.Answer.made o) = false
is_refused (machine.Answer.called n) = false
is_refused (machine.Answer.control c) = false
is_refused (machine.Answer.awaited c n) = false
is_refused machine.Answer.done = false
is_refused (machine.Answer.cancelled n) = false
is_refused machine.Answer.stalled = false
is_refused (machine.Answer.finished v) = false
is_refused (machine.Answer.finished_error e) = false
is_refused (machine.Answer.is_eager b) = false
is_refused (machine.Answer.shows x) = false
is_refused (machine.Answer.refused n) = true

-- is the code's answer a refusal?
abbrev pub refuses : Answer → Bool
refuses (Answer.Made o) = false
refuses (Answer.Called n) = false
refuses (Answer.Switched c) = false
refuses (Answer.Awaited c n) = false
refuses Answer.Done = false
refuses (Answer.Cancelled n) = false
refuses Answer.Stalled = false
refuses (Answer.Finished v) = false
refuses (Answer.FinishedError e) = false
refuses (Answer.Eager b) = false
refuses (Answer.Refused n) = true

-- how many records are written after an answer: those in use; none where it is a refusal
abbrev pub rows_left : machine.Answer → List ℕ → ℕ
rows_left a os = pick (is_refused a) 0 (next_in os)

-- how many a beginning writes: all, or none where it is refused
abbrev pub rows_begun : machine.Answer → ℕ
rows_begun a = pick (is_refused a) 0 task_limit
