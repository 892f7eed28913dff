use Rattle.std.proofs.Common.{sym, rules}
use Rattle.records_tasks.proofs.TaskRowsLaws.{saved-none, saved-one}
use Rattle.records_tasks.proofs.save.Goals as goal

pub loop-t-init : goal.loop-t-init
loop-t-init c = sym (saved-none c.args.words.now c.args.tasks.now)

pub loop-t-preserved : goal.loop-t-preserved
loop-t-preserved c = rw (saved-one c.args.words.now c.loop-t.t c.args.tasks.now, sym c.loop-t.invariant) (search rules)
