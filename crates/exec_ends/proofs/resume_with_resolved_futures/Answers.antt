use Rattle.std.proofs.Common.{arith}
use Rattle.exec_ends.specs.EndLaws.{resume_stalls, resume-waits, resume-goes}
use Rattle.exec_ends.proofs.resume_with_resolved_futures.Goals as goal

pub returns-then-queue-gt0 : goal.returns-then-queue-gt0
returns-then-queue-gt0 c = λ ps l w.
    resume-goes c.args.tasks.now c.args.objects.now ps c.args.queue.now l (λ e. omega arith) c.switch_or_yield.result (c.switch_or_yield.ensures ps l w)

pub returns-then-no_call_pending : goal.returns-then-no_call_pending
returns-then-no_call_pending c = λ ps l w.
    resume_stalls c.args.tasks.now c.args.objects.now ps c.args.queue.now l (omega arith) c.no_call_pending.ensures c.if-no_call_pending.true

pub returns : goal.returns
returns c = λ ps l w.
    resume-waits c.args.tasks.now c.args.objects.now ps c.args.queue.now l (omega arith) c.no_call_pending.ensures c.if-no_call_pending.false
