use Rattle.exec_fill.specs.StepLaws.{reaches, reaches_not}
use Rattle.exec_deliver.proofs.task.deliver_to_task.Goals as goal

pub returns-then-not-is_blocked : goal.returns-then-not-is_blocked
returns-then-not-is_blocked c = λ q os ps l. reaches_not c.args.tasks.now os ps q l c.args.t.0 c.args.state c.is_blocked.ensures c.if-not-is_blocked.true

pub returns : goal.returns
returns c = λ q os ps l. reaches c.args.tasks.now os ps q l c.args.t.0 c.args.state c.is_blocked.ensures c.if-not-is_blocked.false (c.make_ready.ensures q os ps l)
