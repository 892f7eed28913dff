use mathlib.Core.Path.{sym, ap, ◌∙◌}
use Rattle.std.specs.Prelude.{not, is_some}
use borrow.Author.Tests.{ne_eqb}
use Rattle.exec_futures.specs.Results.{result_of}
use Rattle.step_checks.specs.TestLaws.{bad_kind, bad_tag, bad_number, good-kind}
use Rattle.step_checks.proofs.KindLaws.{kind-none, kind-some}
use Rattle.step_checks.proofs.refusals.bad_result.Goals as goal
use Rattle.step_checks.proofs.refusals.bad_result.Goals.{then-is_none-via-then-is_none, then-is_none-via-else-is_none+then-r-gt1}

pub returns-then-is_none : goal.returns-then-is_none
returns-then-is_none c =
    let r = result_of c.args.r in
    let known = sym (ap is_some c.from_byte.ensures) ∙ c.is_none.ensures in
    elim c.then-is_none.branch [
      | then-is_none-via-then-is_none w ↦ bad_kind r (kind-none _ (known ∙ ap not w.if-is_none.true))
      | then-is_none-via-else-is_none+then-r-gt1 w ↦ bad_tag r (kind-some _ (known ∙ ap not w.if-is_none.false)) w.if-r-gt1.true
    ]

pub returns-then-r : goal.returns-then-r
returns-then-r c =
    let known = sym (ap is_some c.from_byte.ensures) ∙ c.is_none.ensures in
    bad_number (result_of c.args.r) (kind-some _ (known ∙ ap not c.if-is_none.false)) c.if-r-gt1.false c.if-r.true

pub returns-else-r : goal.returns-else-r
returns-else-r c =
    let known = sym (ap is_some c.from_byte.ensures) ∙ c.is_none.ensures in
    ne_eqb _ _ c.if-r.false ∙ good-kind (result_of c.args.r) (kind-some _ (known ∙ ap not c.if-is_none.false)) c.if-r-gt1.false c.if-r.false
