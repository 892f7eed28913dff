use mathlib.Core.Path.{refl}
use native.Mathlib.Omega.{arith}
use Rattle.drive_text.specs.Out.{out_of}
use Rattle.drive_laws.specs.KeptLaws.{sound_store_right, sound-store_is-sound}
use Rattle.drive_session.specs.LeftLaws.{left-begins, left_onward, left-turn, left-ends}
use Rattle.drive_session.proofs.drive_records.Goals as goal

pub loop-driven-init : goal.loop-driven-init
loop-driven-init c = (left-begins c.args.calls.now c.args.src.now (out_of c.args.out.now 0) c.requires.0, refl, refl, refl, refl, refl)

pub drive_record-driven-requires : goal.drive_record-driven-requires
drive_record-driven-requires c = (sound_store_right c.loop-driven.invariant.0.whole _ (omega (arith, c.requires.1, c.loop-driven.invariant.4)), sound-store_is-sound c.loop-driven.invariant.0.whole)

pub ended-requires : goal.ended-requires
ended-requires c = omega (arith, c.loop-driven.invariant.0.number_is)

pub returns-then-not-driven : goal.returns-then-not-driven
returns-then-not-driven c = left-ends c.loop-driven.invariant.0 c.drive_record-driven.result c.drive_record-driven.ensures.0 c.if-not-driven.true c.ended.ensures

pub overflow_add-number : goal.overflow_add-number
overflow_add-number c = omega (arith, c.loop-driven.invariant.0.number_is, c.loop-driven.invariant.0.few, (left_onward c.loop-driven.invariant.0 c.drive_record-driven.ensures.0 c.if-not-driven.false).behind, (left_onward c.loop-driven.invariant.0 c.drive_record-driven.ensures.0 c.if-not-driven.false).within)

pub loop-driven-smaller : goal.loop-driven-smaller
loop-driven-smaller c = omega (arith, (left_onward c.loop-driven.invariant.0 c.drive_record-driven.ensures.0 c.if-not-driven.false).behind, (left_onward c.loop-driven.invariant.0 c.drive_record-driven.ensures.0 c.if-not-driven.false).within)

pub loop-driven-preserved : goal.loop-driven-preserved
loop-driven-preserved c = (left-turn c.loop-driven.invariant.0 c.drive_record-driven.ensures.0 c.drive_record-driven.ensures.1 c.if-not-driven.false, omega arith, omega arith, omega arith, omega arith, omega arith)
