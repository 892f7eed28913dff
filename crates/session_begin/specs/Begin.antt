-- A fresh session, as the code makes it, and the contract of its entry.
use Rattle.std.specs.Prelude.{◌≡◌}
use Rattle.asyncio.specs.Numbers.{heap_id, task_id}
use Rattle.asyncio.specs.declared.TaskState.{TaskState}
use Rattle.asyncio.specs.declared.Awaiter.{Awaiter}
use Rattle.asyncio.specs.declared.Task.{Task}
use Rattle.asyncio.specs.declared.Moment.{Moment}
use Rattle.asyncio.specs.declared.Header.{Header}
use Rattle.rows.specs.Tables.{task_put, header_put}
use Rattle.queue.specs.declared.ReadyQueue.{ReadyQueue}
use Rattle.machine.specs.Machine.{Step}
use Rattle.machine.specs.Answers.{Numbers, answer_numbers}
use Rattle.machine.specs.Lent.{lent_begin}
use Rattle.contract.specs.Contract.{Slice, Does}
use Rattle.exec_switch.specs.Answer.{stepped_of}
use Rattle.exec_switch.specs.declared.answer.Stepped.{Stepped}

-- the counts of a fresh session
abbrev pub main_header : Header
main_header = record { made = 0; used = 0; calls = 0; next = 1; moment = Moment.Running (task_id 0) }

-- main runs
abbrev pub main_task : Task
main_task = record { state = TaskState.Running; awaiter = Awaiter.Nobody; coroutine = heap_id 0 }

-- main's row and the counts are written
abbrev pub StoresMain : Slice → Slice → Type 0
StoresMain tasks objects = (tasks.exit.now ≡ task_put tasks.entry.now 0 main_task) × (objects.exit.now ≡ header_put objects.entry.now main_header)

-- a step, and document 01's numbers of its answer
abbrev pub with_numbers : Step → Step × Numbers
with_numbers x = (x, answer_numbers x.answer)

-- The call is the beginning of a session: its answer with document 01's numbers, the slices and the queue are those of `lent_begin`.
abbrev pub LentBegin : Slice → Slice → Slice → ReadyQueue → Stepped → Type 0
LentBegin tasks objects places queue r =
    Does
    (λ x. x.0.store.log)
    tasks
    objects
    places
    queue
    r.queue
    (λ s. with_numbers (stepped_of s r.answer))
    (λ s. with_numbers (lent_begin s))
