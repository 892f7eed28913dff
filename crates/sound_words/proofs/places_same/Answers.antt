use Rattle.std.proofs.Common.{refl, rules}
use Rattle.sound_words.specs.Called.{all_called}
use Rattle.rows.specs.Canonical.{place_canonical}
use Rattle.sound_words.proofs.places_same.Goals as goal

pub returns : goal.returns
unfolding place_canonical
returns c = all_called _ c.all.ensures.ran refl (λ x b q k. search rules)
