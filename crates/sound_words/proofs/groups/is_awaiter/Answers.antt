use Rattle.std.proofs.Common.{arith}
use Rattle.std.proofs.lemmas.Grind.{common_steps}
use Rattle.machine.specs.Tests.{◌and◌}
use Rattle.sound_words.specs.PartLaws.{awaiter_nobody, awaiter_task, awaiter_slot, awaiter_else}
use Rattle.sound_words.proofs.groups.is_awaiter.Goals as goal

pub returns-then-a-eq0 : goal.returns-then-a-eq0
unfolding ◌and◌
returns-then-a-eq0 c = grind (arith, common_steps, awaiter_nobody c.args.a c.args.b c.in-0.is)

pub returns-else-a-eq0 : goal.returns-else-a-eq0
unfolding ◌and◌
returns-else-a-eq0 c = grind (arith, common_steps, awaiter_nobody c.args.a c.args.b c.in-0.is)

pub returns-then-a : goal.returns-then-a
unfolding ◌and◌
returns-then-a c = grind (arith, common_steps, awaiter_task c.args.a c.args.b c.in-1.is)

pub returns-else-a : goal.returns-else-a
unfolding ◌and◌
returns-else-a c = grind (arith, common_steps, awaiter_task c.args.a c.args.b c.in-1.is)

pub returns-then-a-2 : goal.returns-then-a-2
unfolding ◌and◌
returns-then-a-2 c = grind (arith, common_steps, awaiter_slot c.args.a c.args.b c.in-2.is)

pub returns-else-a-2 : goal.returns-else-a-2
unfolding ◌and◌
returns-else-a-2 c = grind (arith, common_steps, awaiter_slot c.args.a c.args.b c.in-2.is)

pub returns-in_default : goal.returns-in_default
returns-in_default c = awaiter_else _ _ (λ e. omega arith) (λ e. omega arith) (λ e. omega arith)
