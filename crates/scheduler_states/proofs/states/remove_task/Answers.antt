use Rattle.machine.specs.Store.{put_task, put_queue, absent}
use Rattle.machine.specs.Scheduler.{remove_from_ready_queue, remove_task}
use Rattle.scheduler_states.proofs.states.remove_task.Goals as goal

pub returns : goal.returns
unfolding remove_task remove_from_ready_queue put_task put_queue absent
returns c = (λ os ps l. rw (c.remove.ensures.0, c.store_task.ensures, c.new.ensures), c.remove.ensures.1)
