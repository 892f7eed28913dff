use mathlib.Core.Path.{refl, sym, ap, ◌∙◌}
use native.Mathlib.Omega.{arith}
use Rattle.machine.specs.Machine.{bad_result}
use Rattle.step_checks.specs.TestLaws.{some-here, some_turn, some_end, some_begin}
use Rattle.step_checks.proofs.refusals.any_bad.Goals as goal

pub loop-i-init : goal.loop-i-init
loop-i-init c = some_begin bad_result _ _ refl

pub returns-then-bad_result : goal.returns-then-bad_result
returns-then-bad_result c = sym (some-here bad_result c.args.results.now c.loop-i.i _ (omega arith) (sym c.if-bad_result.true ∙ c.bad_result.ensures ∙ ap bad_result c.at.ensures)) ∙ c.loop-i.invariant

pub loop-i-preserved : goal.loop-i-preserved
loop-i-preserved c = some_turn bad_result c.args.results.now c.loop-i.i _ (omega arith) (sym c.if-bad_result.false ∙ c.bad_result.ensures ∙ ap bad_result c.at.ensures) ∙ c.loop-i.invariant

pub returns : goal.returns
returns c = sym (some_end bad_result c.args.results.now c.loop-i.i _ (omega arith)) ∙ c.loop-i.invariant
