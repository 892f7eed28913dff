use Rattle.scheduler_cancel.specs.TaskOfLaws.{task_of-none, task_of-lives, task_of-gone}
use Rattle.scheduler_cancel.proofs.cancel.Walk.live_task_of.Goals as goal

pub returns-then-is_main : goal.returns-then-is_main
returns-then-is_main c = task_of-none c.args.tasks.now c.args.self.now.table c.args.o.0 c.from_word-t.ensures c.is_main.ensures c.if-is_main.true

pub returns-then-is_live : goal.returns-then-is_live
returns-then-is_live c = task_of-lives c.args.tasks.now c.args.self.now.table c.args.o.0 c.from_word-t.ensures c.is_main.ensures c.if-is_main.false c.state_at.ensures c.is_live.ensures c.if-is_live.true

pub returns : goal.returns
returns c = task_of-gone c.args.tasks.now c.args.self.now.table c.args.o.0 c.from_word-t.ensures c.is_main.ensures c.if-is_main.false c.state_at.ensures c.is_live.ensures c.if-is_live.false
