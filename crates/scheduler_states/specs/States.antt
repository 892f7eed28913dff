-- A task in another state, and a task that becomes ready.
use Rattle.std.specs.Prelude.{◌≡◌, ℕ}
use Rattle.asyncio.specs.declared.TaskState.{TaskState}
use Rattle.rows.specs.Tables.{task_at, task_put}
use Rattle.queue.specs.Queue.{push_back}
use Rattle.queue.specs.declared.ReadyQueue.{ReadyQueue}
use Rattle.machine.specs.Store.{restate}
use Rattle.machine.specs.Scheduler.{make_ready}
use Rattle.contract.specs.Contract.{Slice, ChangesTasks}

-- The call leaves task t in that state, and the rest of its row as it was.
abbrev pub Restates : Slice → ℕ → TaskState → Type 0
Restates tasks t state = tasks.exit.now ≡ task_put tasks.entry.now t (restate (task_at tasks.entry.now t) state)

-- The call makes task t ready, whatever the queue is: the caller puts it at the queue's back.
abbrev pub MakesReady : Slice → ℕ → TaskState → Type 0
MakesReady tasks t state = (q : ReadyQueue) → ChangesTasks tasks q (push_back q t) (λ s. make_ready s t state)
