use mathlib.Core.List.{[]}
use mathlib.Core.Path.{refl}
use Rattle.machine.specs.Machine.{refusals}
use Rattle.step_checks.specs.StepLaws.{handed_on, host_has, no_wait_logs, resume-goes}
use Rattle.step_host.proofs.resume.Goals as goal

pub returns-in_err-waiting : goal.returns-in_err-waiting
unfolding refusals
returns-in_err-waiting c = λ ps l w. rw (handed_on _ _ c.from_residual.ensures.1) (no_wait_logs c.args.tasks.now c.args.objects.now ps c.args.queue.now l c.waiting.ensures _ [] refl _ c.in_err-waiting.was)

pub returns : goal.returns
returns c = λ ps l w. resume-goes c.args.tasks.now c.args.objects.now ps c.args.queue.now l refl (host_has c.args.tasks.now c.args.objects.now ps c.args.queue.now l c.waiting.ensures c.in_ok-waiting.was) c.resume_with_resolved_futures.result (c.resume_with_resolved_futures.ensures ps l w)
