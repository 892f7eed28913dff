use mathlib.Core.Path.{refl}
use Rattle.rows.specs.TableLaws.{header_read}
use Rattle.machine.specs.Machine.{refusals}
use Rattle.step_checks.specs.StepLaws.{handed_on, no_turn, settled_unknown, settled-full, settled_over, settled-made}
use Rattle.step_make.proofs.settled.Goals as goal

pub returns-in_err-running : goal.returns-in_err-running
unfolding refusals
returns-in_err-running c = λ ts ps q l. rw (handed_on _ _ c.from_residual.ensures.1) (no_turn ts c.args.objects.now ps q l c.running.ensures _ _ refl _ c.in_err-running.was)

pub value_known-requires : goal.value_known-requires
value_known-requires c = (header_read _ c.load_header-header.ensures).made_fits

pub returns-then-not-value_known : goal.returns-then-not-value_known
returns-then-not-value_known c = λ ts ps q l. settled_unknown ts c.args.objects.now ps q l c.running.ensures _ c.in_ok-running.was c.args.value c.load_header-header.ensures c.value_known.ensures c.if-not-value_known.true

pub returns-then-is_full : goal.returns-then-is_full
returns-then-is_full c = λ ts ps q l. settled-full ts c.args.objects.now ps q l c.running.ensures _ c.in_ok-running.was c.args.value c.load_header-header.ensures c.value_known.ensures c.if-not-value_known.false c.is_full.ensures c.if-is_full.true

pub returns-then-no_number : goal.returns-then-no_number
returns-then-no_number c = λ ts ps q l. settled_over ts c.args.objects.now ps q l c.running.ensures _ c.in_ok-running.was c.args.value c.load_header-header.ensures c.value_known.ensures c.if-not-value_known.false c.is_full.ensures c.if-is_full.false c.no_number.ensures c.if-no_number.true

pub returns : goal.returns
returns c = λ ts ps q l. settled-made ts c.args.objects.now ps q l c.running.ensures _ c.in_ok-running.was c.args.value c.load_header-header.ensures c.value_known.ensures c.if-not-value_known.false c.is_full.ensures c.if-is_full.false c.no_number.ensures c.if-no_number.false c.settled_awaitable-o.ensures.0 (c.settled_awaitable-o.ensures.1 ts ps q l)
