use Rattle.std.proofs.Common.{arith}
use Rattle.std.proofs.lemmas.Grind.{common_steps}
use Rattle.sound_words.specs.PartLaws.{stretch_in, stretch_long, stretch_far}
use Rattle.sound_words.proofs.groups.is_stretch.Goals as goal

pub returns-then-n : goal.returns-then-n
returns-then-n c = grind (arith, common_steps, stretch_in c.args.first c.args.n, stretch_long c.args.first c.args.n, stretch_far c.args.first c.args.n)

pub returns-else-n : goal.returns-else-n
returns-else-n c = grind (arith, common_steps, stretch_in c.args.first c.args.n, stretch_long c.args.first c.args.n, stretch_far c.args.first c.args.n)
