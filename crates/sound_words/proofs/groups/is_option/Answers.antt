use Rattle.std.proofs.Common.{arith}
use Rattle.sound_words.specs.PartLaws.{option_none, option_plain, option_list, option_else}
use Rattle.sound_words.proofs.groups.is_option.Goals as goal

pub returns-in-0 : goal.returns-in-0
returns-in-0 c = option_none _ c.in-0.is

pub returns-in-1 : goal.returns-in-1
returns-in-1 c = option_plain _ c.in-1.is

pub returns-in-2 : goal.returns-in-2
returns-in-2 c = option_list _ c.in-2.is

pub returns-in_default : goal.returns-in_default
returns-in_default c = option_else _ (λ e. omega arith) (λ e. omega arith) (λ e. omega arith)
