use native.Mathlib.Omega.{arith}
use Rattle.scheduler_cancel.specs.Cancel.{put_task_of}
use Rattle.rows.specs.TableLaws.{coroutine_fits}
use Rattle.scheduler_cancel.proofs.cancel.put_task_of.Goals as goal

pub bounds-table-i : goal.bounds-table-i
bounds-table-i c = omega (arith, coroutine_fits c.args.tasks.now c.args.t.0 c.coroutine_at-i.ensures)

pub returns-then-is_live : goal.returns-then-is_live
unfolding put_task_of
returns-then-is_live c = rw (← c.state_at.ensures, ← c.is_live.ensures, c.if-is_live.true, ← c.coroutine_at-i.ensures, c.word.ensures)

pub returns-else-is_live : goal.returns-else-is_live
unfolding put_task_of
returns-else-is_live c = rw (← c.state_at.ensures, ← c.is_live.ensures, c.if-is_live.false)
