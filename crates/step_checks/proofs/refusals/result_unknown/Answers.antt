use mathlib.Core.Path.{refl, ◌∙◌}
use native.Mathlib.Omega.{arith}
use borrow.Author.Tests.{le-leb}
use Rattle.exec_futures.specs.Results.{result_of}
use Rattle.step_checks.specs.TestLaws.{known-kind, known-plain, unknown_unmade, unknown_by}
use Rattle.step_checks.proofs.refusals.result_unknown.Goals as goal
use Rattle.step_checks.proofs.refusals.result_unknown.Goals.{then-r-via-then-r, then-r-via-else-r+then-r-ne1}

pub returns-then-r : goal.returns-then-r
returns-then-r c = λ ts ps q l. elim c.then-r.branch [
  | then-r-via-then-r w ↦ known-kind ts c.args.objects.now ps q l (result_of c.args.r) w.if-r.true
  | then-r-via-else-r+then-r-ne1 w ↦ known-plain ts c.args.objects.now ps q l (result_of c.args.r) w.if-r.false w.if-r-ne1.true
]

pub returns-then-made-r : goal.returns-then-made-r
returns-then-made-r c = λ ts ps q l. le-leb _ _ c.if-made-r.true ∙ unknown_unmade ts c.args.objects.now ps q l (result_of c.args.r) c.if-r.false c.if-r-ne1.false (omega (arith, c.if-made-r.true, c.requires.1))

pub returns-else-made-r : goal.returns-else-made-r
returns-else-made-r c = λ ts ps q l. unknown_by ts c.args.objects.now ps q l (result_of c.args.r) c.if-r.false c.if-r-ne1.false refl (omega (arith, c.if-made-r.false, c.requires.1)) (rw c.new.ensures at c.kind_at.ensures) c.is_completed.ensures
