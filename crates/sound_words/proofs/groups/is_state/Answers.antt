use Rattle.std.proofs.Common.{arith}
use Rattle.std.proofs.lemmas.Grind.{common_steps}
use Rattle.machine.specs.Tests.{◌and◌}
use Rattle.std.proofs.Common.{◌∙◌}
use Rattle.sound_words.specs.PartLaws.{zeros, state_bare, state_woken, state_raised, state_blocked, state_else}
use Rattle.sound_words.proofs.groups.is_state.Goals as goal

pub returns-in-3 : goal.returns-in-3
returns-in-3 c = c.is_value.ensures ∙ state_woken _ _ c.in-3.is

pub returns-in-4 : goal.returns-in-4
returns-in-4 c = c.is_error.ensures ∙ state_raised _ _ c.in-4.is

pub returns-then-a : goal.returns-then-a
unfolding ◌and◌
returns-then-a c = grind (arith, common_steps, state_blocked c.args.a c.args.b c.in-5.is)

pub returns-else-a : goal.returns-else-a
unfolding ◌and◌
returns-else-a c = grind (arith, common_steps, state_blocked c.args.a c.args.b c.in-5.is)

pub returns-then-a-eq0 : goal.returns-then-a-eq0
unfolding zeros ◌and◌
returns-then-a-eq0 c = grind (arith, common_steps, state_bare c.args.tag c.args.a c.args.b (omega arith))

pub returns-else-a-eq0 : goal.returns-else-a-eq0
unfolding zeros ◌and◌
returns-else-a-eq0 c = grind (arith, common_steps, state_bare c.args.tag c.args.a c.args.b (omega arith))

pub returns-in_default : goal.returns-in_default
returns-in_default c = state_else _ _ (omega arith)
