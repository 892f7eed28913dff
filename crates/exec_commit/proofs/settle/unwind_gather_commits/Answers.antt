use mathlib.Core.Path.{refl, ◌∙◌}
use native.Mathlib.Omega.{arith}
use Rattle.exec_commit.specs.Frames.{GathersFit}
use Rattle.exec_commit.specs.SettleLaws.{unwind-turns, unwind-ends}
use Rattle.exec_commit.proofs.StackLaws.{popped, nothing_popped, length-pushed}
use Rattle.exec_commit.proofs.settle.unwind_gather_commits.Goals as goal

pub set_gather-requires-in-Some : goal.set_gather-requires-in-Some
unfolding GathersFit
set_gather-requires-in-Some c = (rw (popped c.pop.ensures c.in-Some.is) at c.loop-frame.invariant.1).0

pub loop-frame-smaller : goal.loop-frame-smaller
loop-frame-smaller c = omega (arith, length-pushed (popped c.pop.ensures c.in-Some.is))

pub loop-frame-preserved : goal.loop-frame-preserved
unfolding GathersFit
loop-frame-preserved c =
    let e = popped c.pop.ensures c.in-Some.is in
    ((λ ts ps q k. unwind-turns ts c.loop-frame.objects ps q k c.args.error _ _ e (c.set_gather-in-Some.ensures ts ps q k) ∙ c.loop-frame.invariant.0 ts ps q k), (rw e at c.loop-frame.invariant.1).1, omega (arith, length-pushed e, c.loop-frame.invariant.2))

pub returns : goal.returns
returns c = λ ts ps n q l. unwind-ends ts c.loop-frame.objects ps q l c.args.error (nothing_popped _ _ _ c.pop.ensures c.in_default.not-Some) ∙ c.loop-frame.invariant.0 ts ps q l ∙ unwind-turns ts c.args.objects.now ps q l c.args.error _ _ refl (c.set_gather.ensures ts ps q l)
