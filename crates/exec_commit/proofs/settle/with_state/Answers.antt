use Rattle.exec_commit.proofs.NoGather.{no_gather}
use Rattle.exec_commit.proofs.settle.with_state.Goals as goal

pub returns-in_default : goal.returns-in_default
returns-in_default c = no_gather _ _ c.in_default.not-GatherFuture
