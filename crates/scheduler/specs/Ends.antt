-- The tasks' words when live tasks are removed one after the other.
use Rattle.std.specs.Prelude.{List, ℕ, zero, suc, ◌+◌}
use Rattle.asyncio.specs.States.{pick, is_live}
use Rattle.rows.specs.Tables.{task_at, task_put}
use Rattle.queue.specs.declared.ReadyQueue.{ReadyQueue}
use Rattle.machine.specs.Store.{LogEntry, absent}
use Rattle.machine.specs.Scheduler.{cleanup}
use Rattle.contract.specs.Contract.{Slice, kept, DoesAt}

-- row t cleared, if it is a live task's
unfoldable pub clear_one : List ℕ → ℕ → List ℕ
clear_one ts t = pick (is_live (task_at ts t).state) (task_put ts t absent) ts

-- the k rows from t on
unfoldable pub clear_from : List ℕ → ℕ → ℕ → List ℕ
clear_from ts t zero = ts
clear_from ts t (suc k) = clear_from (clear_one ts t) (t + 1) k

-- The call ends the session, whatever the queue was.
abbrev pub Cleans : Slice → Slice → ReadyQueue → Type 0
Cleans tasks objects left =
    (ps : List ℕ) (q : ReadyQueue) (l : List LogEntry) → DoesAt l (λ s. s.log) tasks objects (kept ps) q left (λ s. s) cleanup
