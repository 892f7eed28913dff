use Rattle.exec_await.specs.AwaitLaws.{awaits_unmade, awaits_coroutine, awaits_external, awaits_gather}
use Rattle.exec_await.proofs.exec_get_awaitable.Goals as goal

pub returns-in-Unmade : goal.returns-in-Unmade
returns-in-Unmade c = λ l. awaits_unmade c.args.tasks.now c.args.objects.now c.args.places.now c.args.queue.now l c.args.t c.args.o c.load_object.ensures c.in-Unmade.is

pub returns-in-Coroutine : goal.returns-in-Coroutine
returns-in-Coroutine c = λ l. awaits_coroutine c.args.tasks.now c.args.objects.now c.args.places.now c.args.queue.now l c.args.t c.args.o c.load_object.ensures _ _ c.in-Coroutine.is c.await_coroutine.result.control c.await_coroutine.result.steps (c.await_coroutine.ensures c.args.tasks.now c.args.places.now c.args.queue.now l)

pub returns-in-ExternalFuture : goal.returns-in-ExternalFuture
returns-in-ExternalFuture c = λ l. awaits_external c.args.tasks.now c.args.objects.now c.args.places.now c.args.queue.now l c.args.t c.args.o c.load_object.ensures _ _ c.in-ExternalFuture.is c.await_external_future.result.control c.await_external_future.result.steps (c.await_external_future.ensures c.args.places.now l c.told-places)

pub returns-in-GatherFuture : goal.returns-in-GatherFuture
returns-in-GatherFuture c = λ l. awaits_gather c.args.tasks.now c.args.objects.now c.args.places.now c.args.queue.now l c.args.t c.args.o c.load_object.ensures _ _ _ c.in-GatherFuture.is c.await_gather_future.result.control c.await_gather_future.result.steps (c.await_gather_future.ensures l)
