use Rattle.exec_deliver.specs.FutureLaws.{fail-nothing, fails-at, external_range}
use Rattle.exec_deliver.proofs.future.fail_at.Goals as goal

pub returns-in_err-p : goal.returns-in_err-p
returns-in_err-p c = λ q ps l z. rw c.from_residual.ensures (fail-nothing c.args.tasks.now c.args.objects.now ps q l c.args.o.0 c.as_pending.ensures c.args.error c.in_err-p.was)

pub deliver_awaiter_failure-requires : goal.deliver_awaiter_failure-requires
deliver_awaiter_failure-requires c = external_range _ _ _ c.as_pending.ensures c.in_ok-p.was

pub returns : goal.returns
returns c = λ q ps l z. fails-at c.args.tasks.now c.args.objects.now ps q l c.args.o.0 c.as_pending.ensures _ c.in_ok-p.was c.args.error c.store_object.ensures c.deliver_awaiter_failure.result (c.deliver_awaiter_failure.ensures q ps l z)
