use Rattle.exec_poll.specs.ItemLaws.{item-unmade, item-spawns, item_awaits, item_nests}
use Rattle.exec_poll.proofs.item.item_object.Goals as goal

pub returns-in-Unmade : goal.returns-in-Unmade
returns-in-Unmade c = λ ps l. item-unmade c.args.tasks.now c.args.objects.now ps c.args.queue.now l c.args.g.0 c.args.o.0 c.load_object.ensures c.in-Unmade.is

pub returns-in-Coroutine : goal.returns-in-Coroutine
returns-in-Coroutine c = λ ps l. item-spawns c.args.tasks.now c.args.objects.now ps c.args.queue.now l c.args.g.0 c.args.o.0 c.load_object.ensures _ _ c.in-Coroutine.is c.item_coroutine.result (c.item_coroutine.ensures ps l)

pub returns-in-ExternalFuture : goal.returns-in-ExternalFuture
returns-in-ExternalFuture c = λ ps l. item_awaits c.args.tasks.now c.args.objects.now ps c.args.queue.now l c.args.g.0 c.args.o.0 c.load_object.ensures _ _ c.in-ExternalFuture.is c.await_external.result (c.await_external.ensures c.args.tasks.now ps c.args.queue.now l)

pub returns-in-GatherFuture : goal.returns-in-GatherFuture
returns-in-GatherFuture c = λ ps l. item_nests c.args.tasks.now c.args.objects.now ps c.args.queue.now l c.args.g.0 c.args.o.0 c.load_object.ensures _ _ _ c.in-GatherFuture.is c.item_gather.result (c.item_gather.ensures _)
