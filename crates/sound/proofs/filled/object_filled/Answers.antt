use mathlib.Core.Path.{sym, ap, ◌∙◌}
use mathlib.Core.Bool.{not}
use native.Mathlib.Omega.{arith}
use borrow.Author.Tests.{eq-eqb}
use Rattle.rows.specs.TableLaws.{places_fit}
use Rattle.sound.specs.FilledLaws.{filled-other, filled-completed, filled-awaited, filled_shut}
use Rattle.sound.proofs.filled.object_filled.Goals as goal

pub rest_filled-requires : goal.rest_filled-requires
rest_filled-requires c = (omega (arith, (places_fit c.args.objects.now c.args.o.0 c.first_at-first.ensures c.count_at-count.ensures).within), omega (arith, (places_fit c.args.objects.now c.args.o.0 c.first_at-first.ensures c.count_at-count.ensures).at_most))

pub rest_filled-requires-else-not-is_completed : goal.rest_filled-requires-else-not-is_completed
rest_filled-requires-else-not-is_completed c = (omega (arith, (places_fit c.args.objects.now c.args.o.0 c.first_at-first.ensures c.count_at-count.ensures).within), omega (arith, (places_fit c.args.objects.now c.args.o.0 c.first_at-first.ensures c.count_at-count.ensures).at_most))

pub returns-then-m-ne0 : goal.returns-then-m-ne0
returns-then-m-ne0 c = filled-awaited _ _ _ c.kind_at-kind.ensures c.first_at-first.ensures c.count_at-count.ensures (sym c.is_awaited.ensures ∙ c.if-is_awaited.true) c.open_at-m.ensures c.if-m-ne0.true c.rest_filled.ensures

pub returns-else-m-ne0 : goal.returns-else-m-ne0
returns-else-m-ne0 c = ap not (eq-eqb _ 0 c.if-m-ne0.false) ∙ filled_shut _ _ _ c.kind_at-kind.ensures (sym c.is_awaited.ensures ∙ c.if-is_awaited.true) c.open_at-m.ensures c.if-m-ne0.false

pub returns-then-not-is_completed : goal.returns-then-not-is_completed
returns-then-not-is_completed c = ap not c.if-not-is_completed.true ∙ filled-other _ _ _ c.kind_at-kind.ensures (sym c.is_awaited.ensures ∙ c.if-is_awaited.false) (sym c.is_completed.ensures ∙ c.if-not-is_completed.true)

pub returns-else-not-is_completed : goal.returns-else-not-is_completed
returns-else-not-is_completed c = filled-completed _ _ _ c.kind_at-kind.ensures c.first_at-first.ensures c.count_at-count.ensures (sym c.is_awaited.ensures ∙ c.if-is_awaited.false) (sym c.is_completed.ensures ∙ c.if-not-is_completed.false) c.rest_filled-else-not-is_completed.ensures
