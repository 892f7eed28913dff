use mathlib.Core.Path.{ap}
use Prim.Native.Nat.{ℕ, ◌-◌}
use Rattle.machine_laws.specs.BitLaws.{shifted_one}
use Rattle.exec_fill.specs.FillLaws.{fill_other, fill_here, bit_within}
use Rattle.exec_fill.proofs.fill.fill_one.Goals as goal

pub returns-then-not-is_open_here : goal.returns-then-not-is_open_here
returns-then-not-is_open_here c = fill_other c.args.places.now c.args.open_places c.args.p c.args.i c.args.source c.args.value c.is_open_here.ensures c.if-not-is_open_here.true

pub overflow_sub-result : goal.overflow_sub-result
overflow_sub-result c = rw (shifted_one c.args.i c.requires.1) (bit_within c.args.places.now c.args.open_places c.args.p c.args.i c.args.source c.args.value c.is_open_here.ensures c.if-not-is_open_here.false)

pub returns : goal.returns
returns c = fill_here c.args.places.now c.args.open_places c.args.p c.args.i c.args.source c.args.value c.is_open_here.ensures c.if-not-is_open_here.false c.store_place.ensures (ap (λ (k : ℕ). c.args.open_places - k) (shifted_one c.args.i c.requires.1))
