use Rattle.exec_deliver.specs.FutureLaws.{resolve_none, resolve_found, found_below}
use Rattle.exec_deliver.proofs.future.resolve_future.Goals as goal

pub returns-in_err-o : goal.returns-in_err-o
returns-in_err-o c = λ q l. rw c.from_residual.ensures (resolve_none c.args.tasks.now c.args.objects.now c.args.places.now q l c.args.call c.take_pending_external.ensures c.args.value c.in_err-o.was)

pub resolve_at-requires : goal.resolve_at-requires
resolve_at-requires c = found_below c.args.objects.now c.args.call c.in_ok-o.o c.take_pending_external.ensures c.in_ok-o.was

pub returns : goal.returns
returns c = λ q l. resolve_found c.args.tasks.now c.args.objects.now c.args.places.now q l c.args.call c.take_pending_external.ensures c.in_ok-o.o c.in_ok-o.was c.args.value (c.resolve_at.ensures q l)
