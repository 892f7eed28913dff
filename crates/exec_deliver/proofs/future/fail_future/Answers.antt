use Rattle.exec_deliver.specs.FutureLaws.{fail-none, fail-found, found_below}
use Rattle.exec_deliver.proofs.future.fail_future.Goals as goal

pub returns-in_err-o : goal.returns-in_err-o
returns-in_err-o c = λ q ps l z. rw c.from_residual.ensures (fail-none c.args.tasks.now c.args.objects.now ps q l c.args.call c.take_pending_external.ensures c.args.error c.in_err-o.was)

pub fail_at-requires : goal.fail_at-requires
fail_at-requires c = found_below c.args.objects.now c.args.call c.in_ok-o.o c.take_pending_external.ensures c.in_ok-o.was

pub returns : goal.returns
returns c = λ q ps l z. fail-found c.args.tasks.now c.args.objects.now ps q l c.args.call c.take_pending_external.ensures c.in_ok-o.o c.in_ok-o.was c.args.error (c.fail_at.ensures q ps l z)
