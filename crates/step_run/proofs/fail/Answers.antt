use mathlib.Core.List.{[]}
use mathlib.Core.Path.{refl}
use Rattle.machine.specs.Machine.{refusals}
use Rattle.step_checks.specs.StepLaws.{handed_on, no_turn_logs, runner-fits, fail-goes}
use Rattle.step_run.proofs.fail.Goals as goal

pub returns-in_err-t : goal.returns-in_err-t
unfolding refusals
returns-in_err-t c = λ ps l w. rw (handed_on _ _ c.from_residual.ensures.1) (no_turn_logs c.args.tasks.now c.args.objects.now ps c.args.queue.now l c.running.ensures _ [] refl _ c.in_err-t.was)

pub fail-requires : goal.fail-requires
fail-requires c = runner-fits c.args.objects.now c.running.ensures _ c.in_ok-t.was

pub returns : goal.returns
returns c = λ ps l w. fail-goes c.args.tasks.now c.args.objects.now ps c.args.queue.now l c.running.ensures _ c.in_ok-t.was c.args.n c.fail.result (c.fail.ensures ps l w)
