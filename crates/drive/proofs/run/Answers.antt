use Rattle.std.specs.Prelude.{refl, []}
use Rattle.std.proofs.Common.{sym, ap, arith, length-take-le, ltb-false}
use Rattle.std.proofs.lemmas.Bool.{not-false}
use Rattle.machine.specs.Machine.{Step}
use Rattle.machine.specs.Answers.{Numbers}
use Rattle.drive_laws.specs.KeptLaws.{begun_fresh, begun_sound_store}
use Rattle.drive_window.specs.RunLaws.{stands_begins, stands_goes_on}
use Rattle.drive_window.specs.OnwardLaws.{drove_fits, drove_goes_up, drove_within}
use Rattle.drive.proofs.run.Goals as goal

pub loop-number-init : goal.loop-number-init
loop-number-init c = (begun_sound_store _ c.begin-begun.result.answer refl refl refl (ap (λ (x : Step × Numbers). x.0) (c.begin-begun.ensures [])), refl, c.refill-input.ensures.whole (omega arith), refl, refl, stands_begins _ _ (begun_fresh _ c.begin-begun.result.answer refl refl refl (ap (λ (x : Step × Numbers). x.0) (c.begin-begun.ensures []))) c.refill-input.ensures (λ i. omega (arith, c.type_inv.src i)))

pub slice_bounds-write_all-end : goal.slice_bounds-write_all-end
slice_bounds-write_all-end c = drove_fits (c.drive_window-window.ensures.0 [])

pub slice_bounds-write_all-end-in-loop-number : goal.slice_bounds-write_all-end-in-loop-number
slice_bounds-write_all-end-in-loop-number c = sym (length-take-le _ _ (drove_fits (c.drive_window-window.ensures.0 [])))

pub ready-input-requires-clause-from_le_filled : goal.ready-input-requires-clause-from_le_filled
ready-input-requires-clause-from_le_filled c = drove_within _ _ _ _ _ _ _ _ c.loop-number.invariant.5.within (c.drive_window-window.ensures.0 []) (not-false _ c.if-not-window.false) c.loop-number.invariant.5.in_order

pub loop-number-smaller : goal.loop-number-smaller
loop-number-smaller c = omega (arith, c.loop-number-test.true, drove_goes_up _ _ _ _ _ _ _ _ c.loop-number.invariant.5.within (c.drive_window-window.ensures.0 []) (not-false _ c.if-not-window.false) (omega arith) c.loop-number-test.true (λ e. c.loop-number.invariant.2 (ltb-false _ _ e)))

pub loop-number-preserved : goal.loop-number-preserved
loop-number-preserved c = (c.drive_window-window.ensures.1, omega arith, c.ready-input.ensures.refilled.whole (omega arith), omega arith, omega arith, stands_goes_on c.loop-number.invariant.5 _ (omega arith) c.drive_window-window.ensures.0 (not-false _ c.if-not-window.false) c.ready-input.ensures (λ i. omega (arith, c.type_inv.src i)))
