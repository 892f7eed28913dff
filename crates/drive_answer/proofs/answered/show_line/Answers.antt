use Rattle.std.specs.Prelude.{List, ℕ, [], length}
use Rattle.std.proofs.Common.{refl, rules, Bor}
use Rattle.machine.specs.Machine.{Event}
use Rattle.machine.specs.Lent.{slices_right}
use Rattle.step_checks.specs.LentLaws.{slices_have, array-words}
use Rattle.step_event.specs.SoundStepLaws.{sound_logged}
use Rattle.step_read.specs.ReadLaws.{read-sound}
use Rattle.drive_answer.specs.DriveLaws.{show_drove}
use Rattle.drive_answer.proofs.answered.show_line.Goals as goal

pub unwrap-requires : goal.unwrap-requires
unfolding slices_right
unwrap-requires c = c.as_array.ensures.variant.1 (slices_have (length c.args.tasks.now) (length c.args.objects.now) (length c.args.places.now) refl c.requires.0).1

pub returns : goal.returns
unfolding slices_right
returns c = λ cs l. show_drove c.args.tasks.now c.args.objects.now c.args.places.now c.args.queue l cs c.args.o c.args.next c.args.number _ (read-sound c.args.tasks.now c.args.objects.now c.args.places.now c.args.queue l (Event.show c.args.o) refl c.requires.0 refl (sound_logged c.args.tasks.now c.args.objects.now c.args.places.now c.args.queue c.requires.1 l) (rw (array-words (λ (x : Bor (List ℕ)). x.now) _ _ c.unwrap.ensures c.as_array.ensures.cases) at (c.show-reading.ensures c.args.tasks.now c.args.places.now c.args.queue []))) (search rules)
