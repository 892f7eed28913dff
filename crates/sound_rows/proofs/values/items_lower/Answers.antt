use Rattle.std.proofs.Common.{refl, rules}
use Rattle.sound_words.specs.Called.{all_called}
use Rattle.machine.specs.Sound.{items_lower}
use Rattle.sound_rows.proofs.values.items_lower.Goals as goal

pub returns : goal.returns
unfolding items_lower
returns c = all_called _ c.all.ensures.ran refl (λ x b q k. search rules)
