use Rattle.std.specs.Prelude.{Some}
use Prim.Native.Nat.{ℕ}
use mathlib.Core.Path.{sym, ap, ◌∙◌}
use native.Mathlib.Omega.{arith}
use Rattle.asyncio.specs.declared.TaskId.{TaskId}
use Rattle.rows.specs.Tables.{task_at}
use Rattle.machine.specs.Scheduler.{is_task_of}
use Rattle.scheduler.specs.Search.{found_task}
use Rattle.scheduler.specs.SearchLaws.{first_here, first_turn, first_end, task_of-begins}
use Rattle.scheduler.proofs.tasks.task_of.Goals as goal

pub loop-t-init : goal.loop-t-init
loop-t-init c = task_of-begins _ _ _

pub is_task_of-requires : goal.is_task_of-requires
is_task_of-requires c = omega (arith, ap (λ (u : TaskId). u.0) c.new-id.ensures)

pub returns-then-is_task_of : goal.returns-then-is_task_of
returns-then-is_task_of c = ap Some c.new-id.ensures ∙ ap found_task (sym (first_here (λ (u : ℕ). is_task_of c.args.c.0 (task_at c.args.tasks.now u)) c.loop-t.t c.args.next c.loop-t-test.true (ap (λ (u : TaskId). u.0) c.new-id.ensures) (sym c.if-is_task_of.true ∙ c.is_task_of.ensures)) ∙ c.loop-t.invariant)

pub loop-t-preserved : goal.loop-t-preserved
loop-t-preserved c = first_turn (λ (u : ℕ). is_task_of c.args.c.0 (task_at c.args.tasks.now u)) c.loop-t.t c.args.next c.loop-t-test.true (ap (λ (u : TaskId). u.0) c.new-id.ensures) (sym c.if-is_task_of.false ∙ c.is_task_of.ensures) ∙ c.loop-t.invariant

pub returns : goal.returns
returns c = ap found_task (sym (first_end (λ (u : ℕ). is_task_of c.args.c.0 (task_at c.args.tasks.now u)) c.loop-t.t c.args.next c.loop-t-test.false) ∙ c.loop-t.invariant)
