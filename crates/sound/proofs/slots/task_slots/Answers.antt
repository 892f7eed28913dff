use Rattle.std.proofs.Common.{refl, rules}
use Rattle.sound_words.specs.Called.{all_called}
use Rattle.sound.proofs.slots.task_slots.Goals as goal

pub returns : goal.returns
returns c = all_called _ c.all.ensures.ran refl (λ x b q k. search rules)
