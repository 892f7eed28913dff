use Rattle.machine.specs.Store.{restate}
use Rattle.scheduler_states.proofs.states.set_state.Goals as goal

pub returns : goal.returns
unfolding restate
returns c = rw (c.store_task.ensures, c.load_task-old.ensures)
