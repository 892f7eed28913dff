use Rattle.scheduler_cancel.specs.TaskOfLaws.{task_of-fits}
use Rattle.scheduler_cancel.specs.Cancel.{walked}
use Rattle.scheduler_cancel.specs.CancelLaws.{visit-driven, visit-nested}
use Rattle.scheduler_cancel.proofs.cancel.Walk.visit.Goals as goal

pub remove_blocked-requires : goal.remove_blocked-requires
remove_blocked-requires c = (c.requires.0, task_of-fits c.args.tasks.now c.args.self.now.table c.args.o.0 _ c.live_task_of.ensures c.in-Some.is)

pub returns-in-Some-clause-walks : goal.returns-in-Some-clause-walks
returns-in-Some-clause-walks c = λ ps l. visit-driven c.args.self.now.table c.args.tasks.now c.args.objects.now ps (walked c.args.queue.now c.args.self.now.depth) l c.args.self.now.marks c.args.self.now.stack c.args.o.0 c.live_task_of.ensures _ c.in-Some.is (c.remove_blocked.ensures.walks ps l)

pub returns-in-None-clause-walks : goal.returns-in-None-clause-walks
returns-in-None-clause-walks c = λ ps l. visit-nested c.args.self.now.table c.args.tasks.now c.args.objects.now ps (walked c.args.queue.now c.args.self.now.depth) l c.args.self.now.marks c.args.self.now.stack c.args.o.0 c.live_task_of.ensures c.in-None.is (c.reach.ensures.reaches c.args.tasks.now ps c.args.queue.now l)
