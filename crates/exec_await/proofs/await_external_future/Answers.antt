use Rattle.exec_await.specs.AwaitLaws.{external_goes}
use Rattle.exec_await.proofs.await_external_future.Goals as goal

pub returns : goal.returns
returns c = λ ps l w. external_goes c.args.tasks.now c.args.objects.now ps c.args.queue.now l c.args.t c.args.o c.args.call c.args.state c.await_external-poll.result (c.await_external-poll.ensures c.args.tasks.now ps c.args.queue.now l) c.go_on.result.control c.go_on.result.steps (c.go_on.ensures ps l w)
