use Rattle.scheduler_states.specs.Awaited.{awaited_gather_of}
use Rattle.exec_poll.specs.ItemLaws.{item_open, item_first}
use Rattle.exec_poll.proofs.item.item.Goals as goal

pub returns-then-is_open : goal.returns-then-is_open
returns-then-is_open c = λ l. item_open c.args.tasks.now c.args.objects.now c.args.places.now c.args.queue.now l c.args.g.0 (awaited_gather_of c.args.w) c.args.o.0 (c.is_open.ensures _) c.if-is_open.true

pub returns : goal.returns
returns c = λ l. item_first c.args.tasks.now c.args.objects.now c.args.places.now c.args.queue.now l c.args.g.0 (awaited_gather_of c.args.w) c.args.o.0 (c.is_open.ensures _) c.if-is_open.false c.item_object.result (c.item_object.ensures c.args.places.now l)
