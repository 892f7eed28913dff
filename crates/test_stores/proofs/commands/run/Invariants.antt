use Rattle.std.proofs.Common.{length}
use Rattle.test_stores.proofs.commands.run.Given as goal

abbrev pub decreases-loop-c : goal.decreases-loop-c
decreases-loop-c l = length l.rest
