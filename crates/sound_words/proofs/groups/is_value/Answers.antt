use Rattle.std.proofs.Common.{arith}
use Rattle.sound_words.specs.PartLaws.{value-plain, value-list, value_else}
use Rattle.sound_words.proofs.groups.is_value.Goals as goal

pub returns-in-0 : goal.returns-in-0
returns-in-0 c = value-plain _ c.in-0.is

pub returns-in-1 : goal.returns-in-1
returns-in-1 c = value-list _ c.in-1.is

pub returns-in_default : goal.returns-in_default
returns-in_default c = value_else _ (λ e. omega arith) (λ e. omega arith)
