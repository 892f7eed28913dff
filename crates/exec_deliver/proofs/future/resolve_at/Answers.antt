use Rattle.exec_deliver.specs.FutureLaws.{resolve_nothing, resolves, external_range}
use Rattle.exec_deliver.proofs.future.resolve_at.Goals as goal

pub returns-in_err-p : goal.returns-in_err-p
returns-in_err-p c = λ q l. rw c.from_residual.ensures (resolve_nothing c.args.tasks.now c.args.objects.now c.args.places.now q l c.args.o.0 c.as_pending.ensures c.args.value c.in_err-p.was)

pub deliver_awaiter_success-requires : goal.deliver_awaiter_success-requires
deliver_awaiter_success-requires c = external_range _ _ _ c.as_pending.ensures c.in_ok-p.was

pub returns : goal.returns
returns c = λ q l. resolves c.args.tasks.now c.args.objects.now c.args.places.now q l c.args.o.0 c.as_pending.ensures _ c.in_ok-p.was c.args.value c.unwrap_or-v.ensures c.store_object.ensures c.deliver_awaiter_success.result (c.deliver_awaiter_success.ensures q l)
