use Rattle.std.proofs.Common.{refl, rules}
use Rattle.sound_words.specs.Called.{all_called}
use Rattle.rows.specs.Canonical.{task_canonical}
use Rattle.sound_words.proofs.tasks_same.Goals as goal

pub returns : goal.returns
unfolding task_canonical
returns c = all_called _ c.all.ensures.ran refl (λ x b q k. search rules)
