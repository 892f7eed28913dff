use mathlib.Core.Path.{sym, ◌∙◌}
use Rattle.sound.specs.FilledLaws.{place_shut}
use Rattle.sound.proofs.filled.place_done.Goals as goal

pub returns-else-is_bit_open : goal.returns-else-is_bit_open
returns-else-is_bit_open c = place_shut _ _ _ _ (sym c.is_bit_open.ensures ∙ c.if-is_bit_open.false) c.result_at.ensures c.is_some.ensures
