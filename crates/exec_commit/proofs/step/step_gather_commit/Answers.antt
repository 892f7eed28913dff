use mathlib.Core.Path.{sym, ◌∙◌}
use native.Mathlib.Omega.{arith}
use Rattle.exec_commit.specs.StepLaws.{walk_begins, walk-turns, walk_ends, walk-stops, walk_counts}
use Rattle.exec_commit.proofs.NoGather.{not_some}
use Rattle.exec_commit.proofs.step.step_gather_commit.Goals as goal

pub loop-i-init : goal.loop-i-init
loop-i-init c = (walk_begins _ _ _ _ _ _ c.count_at-count.ensures, c.told-tasks, c.told-objects, c.told-places, c.count_at-count.ensures)

pub returns-in-Some : goal.returns-in-Some
returns-in-Some c = walk-stops _ _ _ _ _ _ _ _ c.loop-i.invariant.0 c.loop-i-test.true _ _ _ _ _ c.step_item.ensures _ c.in-Some.is

pub loop-i-preserved : goal.loop-i-preserved
loop-i-preserved c = (
  walk-turns _ _ _ _ _ _ _ _ c.loop-i.invariant.0 c.loop-i-test.true _ _ _ _ _ c.step_item.ensures (not_some _ c.in_default.not-Some),
  omega arith,
  omega arith,
  omega arith,
  c.loop-i.invariant.4 ∙ sym (walk_counts _ _ _ _ _ _ _ _ _ _ _ c.loop-i.invariant.1 c.loop-i.invariant.2 c.loop-i.invariant.3 c.requires c.step_item.ensures (not_some _ c.in_default.not-Some)),
)

pub returns : goal.returns
returns c = walk_ends _ _ _ _ _ _ _ _ c.loop-i.invariant.0 c.loop-i-test.false
