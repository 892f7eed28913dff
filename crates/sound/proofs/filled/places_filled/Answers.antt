use Rattle.std.proofs.Common.{refl, rules}
use Rattle.sound_words.specs.Called.{all_called}
use Rattle.machine.specs.Sound.{places_filled}
use Rattle.sound.proofs.filled.places_filled.Goals as goal

pub returns : goal.returns
unfolding places_filled
returns c = all_called _ c.all.ensures.ran refl (λ x b q k. search rules)
