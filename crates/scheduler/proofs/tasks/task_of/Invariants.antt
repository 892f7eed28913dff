use Prim.Native.Nat.{ℕ, ◌-◌}
use mathlib.Core.Path.{◌≡◌}
use Rattle.rows.specs.Tables.{task_at}
use Rattle.machine.specs.Scheduler.{first_from, is_task_of, task_of_in}
use Rattle.scheduler.proofs.tasks.task_of.Given as goal

abbrev pub invariant-loop-t : goal.invariant-loop-t
invariant-loop-t l = first_from (λ (u : ℕ). is_task_of l.c.0 (task_at l.tasks u)) l.t (l.next - l.t) ≡ task_of_in l.tasks l.next l.c.0
