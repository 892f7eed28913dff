use mathlib.Core.Path.{◌≡◌, sym, ◌∙◌}
use native.Mathlib.Omega.{arith}
use Rattle.sound_words.specs.Loops.{all_none, all_turn, all_fails, all_end}
use Rattle.sound_rows.specs.NumberLaws.{count_fits, row_passes, row-stops, places_turn, places-none, objects-fail, objects-end}
use Rattle.sound_rows.proofs.numbers.objects_in_range.Goals as goal
use Rattle.sound_rows.proofs.numbers.objects_in_range.Goals.{then-not-object_in_range-via-then-not-object_in_range, then-not-object_in_range-via-else-not-object_in_range+then-not-awaiter_in_range}

pub loop-o-init : goal.loop-o-init
loop-o-init c = (all_none _, places-none _, omega arith)

pub overflow_add-p : goal.overflow_add-p
overflow_add-p c = omega (arith, count_fits c.args.objects.now c.loop-o.o c.count_at-p.ensures)

pub loop-o-preserved : goal.loop-o-preserved
loop-o-preserved c = (
  all_turn _ c.loop-o.o (sym c.if-not-awaiter_in_range.false ∙ row_passes _ _ c.loop-o.o c.loop-o.p c.loop-o.invariant.1 (sym c.if-not-object_in_range.false ∙ c.object_in_range.ensures) c.awaiter_at.ensures c.awaiter_in_range.ensures) c.loop-o.invariant.0,
  places_turn c.args.header _ c.loop-o.o c.loop-o.p c.loop-o.invariant.1 c.count_at-p.ensures,
  omega (arith, count_fits c.args.objects.now c.loop-o.o c.count_at-p.ensures),
)

pub returns-then-not-object_in_range : goal.returns-then-not-object_in_range
returns-then-not-object_in_range c = objects-fail _ _ (all_fails _ c.loop-o.o _ c.loop-o-test.true (elim c.then-not-object_in_range.branch [
  | then-not-object_in_range-via-then-not-object_in_range w ↦ row-stops _ _ c.loop-o.o c.loop-o.p c.loop-o.invariant.1 (sym w.if-not-object_in_range.true ∙ c.object_in_range.ensures)
  | then-not-object_in_range-via-else-not-object_in_range+then-not-awaiter_in_range w ↦ sym w.if-not-awaiter_in_range.true ∙ row_passes _ _ c.loop-o.o c.loop-o.p c.loop-o.invariant.1 (sym w.if-not-object_in_range.false ∙ c.object_in_range.ensures) w.awaiter_at.ensures w.awaiter_in_range.ensures
]))

pub returns : goal.returns
returns c = objects-end _ _ (all_end _ c.loop-o.o _ (omega arith) c.loop-o-test.false c.loop-o.invariant.0) (let e : c.loop-o.o ≡ c.args.header.made = omega arith in rw e at c.loop-o.invariant.1)
