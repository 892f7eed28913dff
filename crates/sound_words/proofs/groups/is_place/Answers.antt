use Rattle.std.proofs.Common.{arith}
use Rattle.std.proofs.lemmas.Grind.{common_steps}
use Rattle.machine.specs.Tests.{◌and◌}
use Rattle.sound_words.specs.PartLaws.{row-place}
use Rattle.sound_words.proofs.groups.is_place.Goals as goal

pub returns-then-is_option : goal.returns-then-is_option
unfolding ◌and◌
returns-then-is_option c = grind (arith, common_steps, row-place c.args.w (omega arith))

pub returns-else-is_option : goal.returns-else-is_option
unfolding ◌and◌
returns-else-is_option c = grind (arith, common_steps, row-place c.args.w (omega arith))
