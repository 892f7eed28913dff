use mathlib.Core.Path.{refl, ap}
use Prim.Native.Nat.{◌-◌}
use native.Mathlib.Omega.{arith}
use Rattle.asyncio.specs.declared.TaskId.{TaskId}
use Rattle.scheduler_cancel.specs.TaskOfLaws.{tasks_of_begin, tasks_of_turn, tasks_of_end}
use Rattle.scheduler_cancel.proofs.cancel.find_tasks.Goals as goal

pub loop-t-init : goal.loop-t-init
loop-t-init c = record { finds = tasks_of_begin c.args.tasks.now c.args.next; long = refl; least = omega arith }

pub loop-t-preserved : goal.loop-t-preserved
loop-t-preserved c = record {
  finds = tasks_of_turn c.args.tasks.now c.args.next c.loop-t.table (c.loop-t.t - 1) c.loop-t.t (omega arith) (omega arith) (omega arith) c.requires c.loop-t.invariant.long (ap (λ (u : TaskId). u.0) c.new.ensures) c.put_task_of.ensures c.loop-t.invariant.finds;
  long = c.put_task_of.array_long;
  least = omega arith;
}

pub returns : goal.returns
returns c = tasks_of_end c.args.tasks.now c.args.next c.loop-t.table c.loop-t.t (omega arith) (omega arith) (omega (arith, c.loop-t.invariant.least)) c.loop-t.invariant.finds
