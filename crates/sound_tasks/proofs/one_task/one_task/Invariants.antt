use mathlib.Core.Path.{◌≡◌}
use mathlib.Core.Bool.{true}
use Rattle.asyncio.specs.Limits.{object_limit}
use Rattle.rows.specs.Tables.{task_at}
use Rattle.machine.specs.Tests.{all_below}
use Rattle.machine.specs.Sound.{sole_task}
use Rattle.sound_tasks.specs.Marks.{Marks}
use Rattle.sound_tasks.specs.OneTaskLaws.{driven}
use Rattle.sound_tasks.proofs.one_task.one_task.Given as goal

abbrev pub invariant-loop-t : goal.invariant-loop-t
invariant-loop-t l = (all_below l.t (sole_task (task_at l.tasks)) ≡ true) × Marks l.seen object_limit l.t (driven l.tasks)
