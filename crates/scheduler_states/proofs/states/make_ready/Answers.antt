use Rattle.machine.specs.Store.{task, put_task, put_queue, set_state}
use Rattle.machine.specs.Scheduler.{push_ready, make_ready}
use Rattle.scheduler_states.proofs.states.make_ready.Goals as goal

pub returns : goal.returns
unfolding make_ready push_ready set_state put_task put_queue task
returns c = λ q os ps l. rw c.set_state.ensures
