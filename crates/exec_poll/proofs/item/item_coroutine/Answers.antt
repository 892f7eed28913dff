use Rattle.exec_poll.specs.ItemLaws.{coroutine-spawned, coroutine-driven, coroutine_reused}
use Rattle.exec_poll.proofs.item.item_coroutine.Goals as goal

pub returns-then-spawn : goal.returns-then-spawn
returns-then-spawn c = λ ps l. coroutine-spawned c.args.tasks.now c.args.objects.now ps c.args.queue.now l c.args.g.0 c.args.o.0 c.in-New.is c.spawn.ensures c.if-spawn.true

pub returns-else-spawn : goal.returns-else-spawn
returns-else-spawn c = λ ps l. coroutine-driven c.args.tasks.now c.args.objects.now ps c.args.queue.now l c.args.g.0 c.args.o.0 c.in-New.is c.spawn.ensures c.if-spawn.false

pub returns-in_default : goal.returns-in_default
returns-in_default c = λ ps l. coroutine_reused c.args.tasks.now c.args.objects.now ps c.args.queue.now l c.args.g.0 c.args.o.0 c.in_default.not-New
