use mathlib.Core.Path.{ap}
use native.Mathlib.Omega.{arith}
use Rattle.asyncio.specs.declared.TaskId.{TaskId}
use Rattle.machine.specs.Store.{put_task, put_header, put_queue, add_log, set_next, header}
use Rattle.machine.specs.Scheduler.{push_ready, spawn_as}
use Rattle.scheduler.proofs.spawn.spawn_as.Goals as goal

pub store_task-requires : goal.store_task-requires
store_task-requires c = omega (arith, ap (λ (t : TaskId). t.0) c.new-t.ensures)

pub returns : goal.returns
unfolding spawn_as push_ready set_next put_task put_header put_queue add_log header
returns c = record { spawns = λ e ps l. rw (e, c.push_back.ensures, c.store_header.ensures, c.store_task.ensures, c.new-t.ensures) }
