use Rattle.std.specs.Prelude.{[]}
use mathlib.Core.Path.{refl, sym, ◌∙◌}
use native.Mathlib.Omega.{arith}
use Rattle.drive_laws.specs.KeptLaws.{record_sound_store, sound_store_right, sound-store_is-sound}
use Rattle.drive_window.specs.TakenLaws.{taken_begins, taken_stays, taken_onward, taken_turn, taken_stops, number_for}
use Rattle.drive_window.proofs.drive_window.Goals as goal

pub loop-left_queue-init : goal.loop-left_queue-init
loop-left_queue-init c = (λ l. taken_begins _ c.args.out.now c.args.src.now c.args.tasks.now c.args.objects.now c.args.places.now c.args.calls.now c.args.queue c.args.from c.args.number l, c.requires.0, refl, refl, refl, refl, refl)

pub drive_record-driven-requires : goal.drive_record-driven-requires
drive_record-driven-requires c = (sound_store_right c.loop-left_queue.invariant.1 _ (omega (arith, c.requires.1, c.loop-left_queue.invariant.5)), sound-store_is-sound c.loop-left_queue.invariant.1)

pub returns-then-not-driven : goal.returns-then-not-driven
returns-then-not-driven c = (λ l. taken_stops (c.loop-left_queue.invariant.0 l) c.loop-left_queue.invariant.6 (sym c.takes.ensures ∙ c.loop-left_queue-test.true) c.drive_record-driven.ensures.0 c.if-not-driven.true _ refl refl refl refl refl, record_sound_store _ _ _ _ _ c.loop-left_queue.invariant.1 c.drive_record-driven.ensures.1 (c.drive_record-driven.ensures.0 []))

pub overflow_add-count : goal.overflow_add-count
overflow_add-count c = omega (arith, number_for _ _ _ _ _ _ (sym c.takes.ensures ∙ c.loop-left_queue-test.true))

pub loop-left_queue-smaller : goal.loop-left_queue-smaller
loop-left_queue-smaller c = omega (arith, (taken_onward (c.loop-left_queue.invariant.0 []) c.loop-left_queue.invariant.6 (sym c.takes.ensures ∙ c.loop-left_queue-test.true) c.drive_record-driven.ensures.0 c.if-not-driven.false).behind, (taken_onward (c.loop-left_queue.invariant.0 []) c.loop-left_queue.invariant.6 (sym c.takes.ensures ∙ c.loop-left_queue-test.true) c.drive_record-driven.ensures.0 c.if-not-driven.false).within)

pub loop-left_queue-preserved : goal.loop-left_queue-preserved
loop-left_queue-preserved c = (λ l. taken_turn (c.loop-left_queue.invariant.0 l) c.loop-left_queue.invariant.6 (sym c.takes.ensures ∙ c.loop-left_queue-test.true) c.drive_record-driven.ensures.0 c.if-not-driven.false, record_sound_store _ _ _ _ _ c.loop-left_queue.invariant.1 c.drive_record-driven.ensures.1 (c.drive_record-driven.ensures.0 []), omega arith, omega arith, omega arith, omega arith, omega arith)

pub returns : goal.returns
returns c = (λ l. taken_stays (c.loop-left_queue.invariant.0 l) c.loop-left_queue.invariant.6 (sym c.takes.ensures ∙ c.loop-left_queue-test.false) _ refl refl refl refl refl, c.loop-left_queue.invariant.1)
