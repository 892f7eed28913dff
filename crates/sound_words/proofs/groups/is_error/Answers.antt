use Rattle.std.proofs.Common.{arith}
use Rattle.std.proofs.Common.{◌∙◌}
use Rattle.sound_words.specs.PartLaws.{error-number, error_bare, error_else}
use Rattle.sound_words.proofs.groups.is_error.Goals as goal

pub returns-in-0 : goal.returns-in-0
returns-in-0 c = c.is_u32.ensures ∙ error-number _ _ (omega arith)

pub returns-in-2-to-6 : goal.returns-in-2-to-6
returns-in-2-to-6 c = error_bare _ _ (omega arith) (omega arith)

pub returns-in_default : goal.returns-in_default
returns-in_default c = error_else _ (omega arith)
