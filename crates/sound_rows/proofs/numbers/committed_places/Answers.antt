use mathlib.Core.Path.{◌≡◌, sym, ◌∙◌}
use native.Mathlib.Omega.{arith}
use Rattle.sound_words.specs.Loops.{sum_none}
use Rattle.sound_rows.specs.NumberLaws.{count_fits, committed-turn, committed_skip}
use Rattle.sound_rows.proofs.numbers.committed_places.Goals as goal
use Rattle.sound_rows.proofs.numbers.committed_places.Goals.{then-is_committed, else-is_committed}

pub loop-o-init : goal.loop-o-init
loop-o-init c = (sum_none _, omega arith)

pub overflow_add-sum : goal.overflow_add-sum
overflow_add-sum c = omega (arith, count_fits c.args.objects.now c.loop-o.o c.count_at-sum.ensures)

pub loop-o-preserved : goal.loop-o-preserved
loop-o-preserved c = elim c.if-is_committed.branch [
  | then-is_committed w ↦ rw w.sum-is (
    committed-turn _ c.loop-o.o c.loop-o.sum c.loop-o.invariant.0 c.kind_at.ensures (sym c.is_committed.ensures ∙ w.if-is_committed.true) w.count_at-sum.ensures,
    omega (arith, count_fits c.args.objects.now c.loop-o.o w.count_at-sum.ensures),
  )
  | else-is_committed w ↦ rw w.sum-is (committed_skip _ c.loop-o.o c.loop-o.sum c.loop-o.invariant.0 c.kind_at.ensures (sym c.is_committed.ensures ∙ w.if-is_committed.false), omega arith)
]

pub returns : goal.returns
returns c = (let e : c.loop-o.o ≡ c.args.made = omega arith in rw e at c.loop-o.invariant.0, omega arith)
