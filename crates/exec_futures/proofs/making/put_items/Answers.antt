use mathlib.Core.Path.{◌∙◌}
use native.Mathlib.Omega.{arith}
use Rattle.exec_futures.specs.MakingLaws.{items-turn, items-end}
use Rattle.exec_futures.proofs.making.put_items.Goals as goal

pub loop-i-preserved : goal.loop-i-preserved
loop-i-preserved c = λ ts os q l. items-turn c.args.items.now c.args.first ts os q l c.loop-i.places c.loop-i.i c.loop-i-test.true c.new.ensures c.store_place.ensures ∙ c.loop-i.invariant ts os q l

pub returns : goal.returns
returns c = λ ts os q l. items-end c.args.items.now c.args.first ts os q l c.loop-i.places c.loop-i.i (omega arith) ∙ c.loop-i.invariant ts os q l
