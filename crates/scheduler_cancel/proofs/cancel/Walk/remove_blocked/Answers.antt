use mathlib.Core.List.{◌∷◌}
use Rattle.machine.specs.Store.{removed}
use Rattle.scheduler_cancel.specs.Cancel.{walked}
use Rattle.scheduler_cancel.specs.CancelLaws.{blocked-object, removes_only, removes_blocked}
use Rattle.scheduler_cancel.proofs.Cases.{not_some}
use Rattle.scheduler_cancel.proofs.cancel.Walk.remove_blocked.Goals as goal

pub reach-requires : goal.reach-requires
reach-requires c = (c.requires.0, blocked-object c.args.tasks.now c.args.t.0 _ c.state_at.ensures c.blocked_on-blocked.ensures c.in-Some.is)

pub returns-in-Some-clause-walks : goal.returns-in-Some-clause-walks
returns-in-Some-clause-walks c = λ ps l. removes_blocked c.args.self.now.table c.args.tasks.now c.args.objects.now ps (walked c.args.queue.now c.args.self.now.depth) l c.args.self.now.marks c.args.self.now.stack c.args.t.0 c.state_at.ensures c.blocked_on-blocked.ensures (c.remove_task.ensures.0 c.args.objects.now ps l) _ c.in-Some.is (c.reach.ensures.reaches _ ps _ (removed c.args.t.0 ∷ l))

pub returns-in_default-clause-walks : goal.returns-in_default-clause-walks
returns-in_default-clause-walks c = λ ps l. removes_only c.args.self.now.table c.args.tasks.now c.args.objects.now ps (walked c.args.queue.now c.args.self.now.depth) l c.args.self.now.marks c.args.self.now.stack c.args.t.0 c.state_at.ensures c.blocked_on-blocked.ensures (c.remove_task.ensures.0 c.args.objects.now ps l) (not_some _ c.in_default.not-Some)
