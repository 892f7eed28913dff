use Rattle.exec_poll.specs.ItemLaws.{external_taken, external_refused}
use Rattle.exec_poll.proofs.item.await_external.Goals as goal

pub returns-then-not-is_nobody : goal.returns-then-not-is_nobody
returns-then-not-is_nobody c = λ ts ps q l. external_refused ts c.args.objects.now ps q l c.args.o.0 c.args.call c.args.awaiter _ _ c.in-Pending.is c.is_nobody.ensures c.if-not-is_nobody.true

pub returns-else-not-is_nobody : goal.returns-else-not-is_nobody
returns-else-not-is_nobody c = λ ts ps q l. external_taken ts c.args.objects.now ps q l c.args.o.0 c.args.call c.args.awaiter _ _ c.in-Pending.is c.is_nobody.ensures c.if-not-is_nobody.false c.store_object.ensures
