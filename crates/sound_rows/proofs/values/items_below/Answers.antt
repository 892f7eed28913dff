use Rattle.std.proofs.Common.{refl, rules}
use Rattle.machine.specs.Tests.{all_below}
use Rattle.sound_words.specs.Called.{all_called}
use Rattle.sound_rows.specs.ValueLaws.{items-read}
use Rattle.std.proofs.iter.Serving.{serving}
use Rattle.rows.specs.TableLaws.{places_fit}
use Rattle.sound_rows.proofs.values.items_below.Goals as goal

pub all-requires-clause-callable : goal.all-requires-clause-callable
all-requires-clause-callable c = grind (serving, (places_fit c.args.objects.now c.args.g.0 c.first_at.ensures c.count_at-count.ensures).within)

pub returns-then-count-eq0 : goal.returns-then-count-eq0
unfolding all_below
returns-then-count-eq0 c = items-read _ _ _ c.first_at.ensures c.count_at-count.ensures (rw c.if-count-eq0.true)

pub returns-else-count-eq0 : goal.returns-else-count-eq0
returns-else-count-eq0 c = items-read _ _ _ c.first_at.ensures c.count_at-count.ensures (all_called _ c.all.ensures.ran refl (λ x b q k. search rules))
