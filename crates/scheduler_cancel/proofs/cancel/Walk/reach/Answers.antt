use native.Mathlib.Omega.{arith}
use Rattle.scheduler_cancel.specs.CancelLaws.{room-left, reach-other, reach-marked, reach-new}
use Rattle.scheduler_cancel.proofs.cancel.Walk.reach.Goals as goal
use Rattle.scheduler_cancel.proofs.cancel.Walk.reach.Goals.{else-is_awaited-via-then-is_awaited+else-not-self-i, else-is_awaited-via-else-is_awaited}

pub bounds-self-self : goal.bounds-self-self
bounds-self-self c = omega (arith, room-left c.args.self.now.marks c.args.self.now.depth c.args.g.0 (omega arith) c.requires.0 c.requires.1 c.if-not-self-i.true)

pub returns-then-not-self-i-clause-reaches : goal.returns-then-not-self-i-clause-reaches
returns-then-not-self-i-clause-reaches c = λ ts ps q l. reach-new c.args.self.now.table ts c.args.objects.now ps q c.args.self.now.depth l c.args.self.now.marks c.args.self.now.stack c.args.g.0 c.kind_at.ensures c.is_awaited.ensures c.if-is_awaited.true c.if-not-self-i.true (omega (arith, room-left c.args.self.now.marks c.args.self.now.depth c.args.g.0 (omega arith) c.requires.0 c.requires.1 c.if-not-self-i.true)) c.requires.1 c.word.ensures

pub returns-else-is_awaited-clause-reaches : goal.returns-else-is_awaited-clause-reaches
returns-else-is_awaited-clause-reaches c = λ ts ps q l. elim c.else-is_awaited.branch [
  | else-is_awaited-via-then-is_awaited+else-not-self-i w ↦ reach-marked c.args.self.now.table ts c.args.objects.now ps q c.args.self.now.depth l c.args.self.now.marks c.args.self.now.stack c.args.g.0 c.kind_at.ensures c.is_awaited.ensures w.if-is_awaited.true w.if-not-self-i.false
  | else-is_awaited-via-else-is_awaited w ↦ reach-other c.args.self.now.table ts c.args.objects.now ps q c.args.self.now.depth l c.args.self.now.marks c.args.self.now.stack c.args.g.0 c.kind_at.ensures c.is_awaited.ensures w.if-is_awaited.false
]
