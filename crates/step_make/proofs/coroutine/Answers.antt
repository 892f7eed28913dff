use mathlib.Core.Path.{refl}
use Rattle.machine.specs.Machine.{refusals}
use Rattle.step_checks.specs.StepLaws.{handed_on, no_turn, coroutine-refused, coroutine-made}
use Rattle.step_make.proofs.coroutine.Goals as goal

pub returns-in_err-running : goal.returns-in_err-running
unfolding refusals
returns-in_err-running c = λ ts ps q l. rw (handed_on _ _ c.from_residual.ensures.1) (no_turn ts c.args.objects.now ps q l c.running.ensures _ _ refl _ c.in_err-running.was)

pub returns-then-is_full : goal.returns-then-is_full
returns-then-is_full c = λ ts ps q l. coroutine-refused ts c.args.objects.now ps q l c.running.ensures _ c.in_ok-running.was c.args.function c.is_full.ensures c.if-is_full.true

pub returns : goal.returns
returns c = λ ts ps q l. coroutine-made ts c.args.objects.now ps q l c.running.ensures _ c.in_ok-running.was c.args.function c.is_full.ensures c.if-is_full.false c.make_coroutine-o.ensures.0 (c.make_coroutine-o.ensures.1 ts ps q l)
