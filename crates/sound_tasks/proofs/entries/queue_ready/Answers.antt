use mathlib.Core.Path.{sym, refl, ◌∙◌}
use native.Mathlib.Omega.{arith}
use Rattle.asyncio.specs.Limits.{task_limit}
use Rattle.machine.specs.Sound.{queue_ready}
use Rattle.sound_words.specs.Loops.{all_none, all_turn, all_fails, all_end}
use Rattle.sound_tasks.specs.Marks.{marks_none}
use Rattle.sound_tasks.specs.QueueLaws.{entry_out, entry_seen, entry-idle, entry-good, entry_marks}
use Rattle.sound_tasks.proofs.entries.queue_ready.Goals as goal
use Rattle.sound_tasks.proofs.entries.queue_ready.Goals.{then-next-t-via-then-next-t, then-next-t-via-else-next-t+then-seen-t, then-next-t-via-else-next-t+else-seen-t+then-not-is_ready}

pub loop-t-init : goal.loop-t-init
loop-t-init c = (all_none _, marks_none task_limit _)

pub returns-then-next-t : goal.returns-then-next-t
unfolding queue_ready
returns-then-next-t c = let l = c.loop-t in all_fails _ l.t-index _ c.loop-t-test.true (elim c.then-next-t.branch [
  | then-next-t-via-then-next-t w ↦ entry_out _ _ _ l.seen l.t-index refl w.if-next-t.true
  | then-next-t-via-else-next-t+then-seen-t w ↦ entry_seen _ _ _ l.seen l.t-index refl w.if-next-t.false c.requires.1 l.invariant.1 w.if-seen-t.true
  | then-next-t-via-else-next-t+else-seen-t+then-not-is_ready w ↦ entry-idle _ _ _ l.seen l.t-index refl w.if-next-t.false c.requires.1 l.invariant.1 w.state_at.ensures (sym w.is_ready.ensures ∙ w.if-not-is_ready.true)
])

pub loop-t-preserved : goal.loop-t-preserved
loop-t-preserved c = let l = c.loop-t in (
  all_turn _ l.t-index (entry-good _ _ _ l.seen l.t-index refl c.if-next-t.false c.requires.1 l.invariant.1 c.state_at.ensures c.if-seen-t.false (sym c.is_ready.ensures ∙ c.if-not-is_ready.false)) l.invariant.0,
  entry_marks _ c.args.tasks.now _ l.seen l.t-index refl c.if-next-t.false c.requires.1 l.invariant.1,
)

pub returns : goal.returns
unfolding queue_ready
returns c = all_end _ c.loop-t.t-index _ (omega arith) c.loop-t-test.false c.loop-t.invariant.0
