use mathlib.Core.Path.{◌∙◌}
use native.Mathlib.Omega.{arith}
use borrow.Author.Tests.{le-leb}
use Rattle.rows.specs.TableLaws.{header_read}
use Rattle.step_checks.specs.StepLaws.{past_next, below_next}
use Rattle.step_checks.proofs.refusals.not_live.Goals as goal

pub returns-then-load_header-t : goal.returns-then-load_header-t
returns-then-load_header-t c = λ ps q l. le-leb _ _ c.if-load_header-t.true ∙ past_next c.args.tasks.now c.args.objects.now ps q l c.args.t c.load_header.ensures c.if-load_header-t.true

pub state_at-requires : goal.state_at-requires
state_at-requires c = rw c.new.ensures (omega (arith, c.if-load_header-t.false, (header_read _ c.load_header.ensures).next_fits))

pub returns-else-load_header-t : goal.returns-else-load_header-t
returns-else-load_header-t c = λ ps q l. below_next c.args.tasks.now c.args.objects.now ps q l c.args.t c.load_header.ensures c.if-load_header-t.false (rw c.new.ensures at c.state_at.ensures) c.is_live.ensures
