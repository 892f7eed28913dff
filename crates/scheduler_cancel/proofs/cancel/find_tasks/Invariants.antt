use mathlib.Core.Path.{◌≡◌}
use Prim.Native.Nat.{ℕ, ◌≤◌, ◌-◌, min}
use lib.ListN.{length}
use Rattle.asyncio.specs.Limits.{object_limit}
use Rattle.rows.specs.Tables.{task_at}
use Rattle.machine.specs.Scheduler.{first_from, is_task_of}
use Rattle.scheduler_cancel.specs.Cancel.{tasks_of_in}
use Rattle.scheduler_cancel.proofs.cancel.find_tasks.Given as goal

abbrev pub invariant-loop-t : goal.invariant-loop-t
invariant-loop-t l = record {
  finds : (c : ℕ) → tasks_of_in l.table c ≡ first_from (λ u. is_task_of c (task_at l.tasks u)) l.t (l.next - l.t);
  long : length l.table ≡ object_limit;
  least : min l.next 1 ≤ l.t;
}
