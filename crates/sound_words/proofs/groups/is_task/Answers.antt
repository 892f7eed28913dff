use Rattle.std.proofs.Common.{arith}
use Rattle.std.proofs.lemmas.Grind.{common_steps}
use Rattle.machine.specs.Tests.{◌and◌}
use Rattle.sound_words.specs.PartLaws.{row-task}
use Rattle.sound_words.proofs.groups.is_task.Goals as goal

pub returns-then-is_state : goal.returns-then-is_state
unfolding ◌and◌
returns-then-is_state c = grind (arith, row-task c.args.w (omega arith))

pub returns-else-is_state : goal.returns-else-is_state
unfolding ◌and◌
returns-else-is_state c = grind (arith, common_steps, row-task c.args.w (omega arith))
