use mathlib.Core.Path.{sym, ◌∙◌}
use Rattle.scheduler_states.specs.Awaited.{awaited_gather}
use Rattle.scheduler_states.specs.OpenPlaceLaws.{open_found, open_turn, open_end, open_begins}
use Rattle.scheduler_states.proofs.places.is_open.Goals as goal

pub loop-i-init : goal.loop-i-init
loop-i-init c = λ a. open_begins _ _ _ _

pub returns-then-is_open_here : goal.returns-then-is_open_here
returns-then-is_open_here c = λ a. open_found _ (awaited_gather c.args.first c.args.count a c.args.open_places) c.args.o.0 c.loop-i.i c.args.count c.loop-i-test.true (sym c.if-is_open_here.true ∙ c.is_open_here.ensures) ∙ c.loop-i.invariant a

pub loop-i-preserved : goal.loop-i-preserved
loop-i-preserved c = λ a. open_turn _ (awaited_gather c.args.first c.args.count a c.args.open_places) c.args.o.0 c.loop-i.i c.args.count c.loop-i-test.true (sym c.if-is_open_here.false ∙ c.is_open_here.ensures) ∙ c.loop-i.invariant a

pub returns : goal.returns
returns c = λ a. open_end _ (awaited_gather c.args.first c.args.count a c.args.open_places) c.args.o.0 c.loop-i.i c.args.count c.loop-i-test.false ∙ c.loop-i.invariant a
