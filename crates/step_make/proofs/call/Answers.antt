use mathlib.Core.Path.{refl}
use Rattle.machine.specs.Machine.{refusals}
use Rattle.step_checks.specs.StepLaws.{handed_on, no_turn, call-refused, call-given}
use Rattle.step_make.proofs.call.Goals as goal

pub returns-in_err-running : goal.returns-in_err-running
unfolding refusals
returns-in_err-running c = λ ts ps q l. rw (handed_on _ _ c.from_residual.ensures.1) (no_turn ts c.args.objects.now ps q l c.running.ensures _ _ refl _ c.in_err-running.was)

pub returns-then-no_number : goal.returns-then-no_number
returns-then-no_number c = λ ts ps q l. call-refused ts c.args.objects.now ps q l c.running.ensures _ c.in_ok-running.was c.no_number.ensures c.if-no_number.true

pub returns : goal.returns
returns c = λ ts ps q l. call-given ts c.args.objects.now ps q l c.running.ensures _ c.in_ok-running.was c.no_number.ensures c.if-no_number.false c.allocate_call_id-n.ensures.0 (c.allocate_call_id-n.ensures.1 ts ps q l)
