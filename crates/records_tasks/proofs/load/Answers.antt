use Rattle.std.proofs.Common.{sym, rules}
use Rattle.records_tasks.proofs.TaskRowsLaws.{rows-none, rows-one}
use Rattle.records_tasks.proofs.load.Goals as goal

pub loop-t-init : goal.loop-t-init
loop-t-init c = sym (rows-none c.args.tasks.now)

pub loop-t-preserved : goal.loop-t-preserved
loop-t-preserved c = rw (rows-one c.args.tasks.now c.loop-t.t, sym c.loop-t.invariant) (search rules)
