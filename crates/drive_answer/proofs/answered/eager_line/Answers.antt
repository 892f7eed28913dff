use Rattle.std.specs.Prelude.{List, ℕ, [], length}
use Rattle.std.proofs.Common.{refl, rules, Bor}
use Rattle.machine.specs.Machine.{Event}
use Rattle.machine.specs.Lent.{slices_right}
use Rattle.step_checks.specs.LentLaws.{slices_have, array-words}
use Rattle.step_event.specs.SoundStepLaws.{sound_logged}
use Rattle.step_read.specs.ReadLaws.{read-sound}
use Rattle.drive_answer.specs.DriveLaws.{eager_drove}
use Rattle.drive_answer.proofs.answered.eager_line.Goals as goal

pub unwrap-requires : goal.unwrap-requires
unfolding slices_right
unwrap-requires c = c.as_array.ensures.variant.1 (slices_have (length c.args.tasks.now) (length c.args.objects.now) (length c.args.places.now) refl c.requires.0).1

pub returns : goal.returns
unfolding slices_right
returns c = λ l. eager_drove c.args.tasks.now c.args.objects.now c.args.places.now c.args.queue l c.args.calls.now c.args.next c.args.number c.eager-answer.result (read-sound c.args.tasks.now c.args.objects.now c.args.places.now c.args.queue l Event.eager refl c.requires.0 refl (sound_logged c.args.tasks.now c.args.objects.now c.args.places.now c.args.queue c.requires.1 l) (rw (array-words (λ (x : Bor (List ℕ)). x.now) _ _ c.unwrap.ensures c.as_array.ensures.cases) at (c.eager-answer.ensures c.args.tasks.now c.args.places.now []))) (search rules)
