use Rattle.exec_ends.specs.EndLaws.{fail_main, fail-spawned}
use Rattle.exec_ends.proofs.fail.Goals as goal

pub returns-then-is_main : goal.returns-then-is_main
returns-then-is_main c = λ ps l w.
    fail_main c.args.tasks.now c.args.objects.now ps c.args.queue.now l c.args.t c.is_main.ensures c.args.error c.if-is_main.true (c.cleanup.ensures ps c.args.queue.now l)

pub returns : goal.returns
returns c = λ ps l w.
    fail-spawned c.args.tasks.now c.args.objects.now ps c.args.queue.now l c.args.t c.is_main.ensures c.args.error c.if-is_main.false c.handle_task_failure.result (c.handle_task_failure.ensures ps l w)
