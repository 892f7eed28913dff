use mathlib.Core.Path.{◌∙◌}
use Rattle.exec_fill.specs.FillLaws.{fill_turn, fill_end, fill_begin}
use Rattle.exec_fill.proofs.fill.fill_places.Goals as goal

pub loop-i-init : goal.loop-i-init
loop-i-init c = fill_begin _ _ _ _ _ _

pub loop-i-preserved : goal.loop-i-preserved
loop-i-preserved c = fill_turn _ c.loop-i.left c.args.w.first c.args.source.0 c.args.value c.loop-i.i c.args.w.count c.loop-i-test.true c.fill_one-left.ensures ∙ c.loop-i.invariant

pub returns : goal.returns
returns c = fill_end _ c.loop-i.left c.args.w.first c.args.source.0 c.args.value c.loop-i.i c.args.w.count c.loop-i-test.false ∙ c.loop-i.invariant
