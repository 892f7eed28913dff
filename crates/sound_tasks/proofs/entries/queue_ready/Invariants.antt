use mathlib.Core.Path.{◌≡◌}
use mathlib.Core.Bool.{true}
use Rattle.asyncio.specs.Limits.{task_limit}
use Rattle.rows.specs.Tables.{task_at}
use lib.ListN.{take}
use Rattle.machine.specs.Tests.{all_below}
use Rattle.machine.specs.Sound.{entry_ready}
use Rattle.sound_tasks.specs.Marks.{Marks}
use Rattle.sound_tasks.specs.QueueLaws.{entry_is}
use Rattle.sound_tasks.proofs.entries.queue_ready.Given as goal

abbrev pub invariant-loop-t : goal.invariant-loop-t
invariant-loop-t l = (all_below l.t-index (entry_ready l.next (task_at l.tasks) (take l.queue.len l.queue.ids)) ≡ true) × Marks l.seen task_limit l.t-index (entry_is (take l.queue.len l.queue.ids))
