use mathlib.Core.Path.{sym, ◌∙◌}
use Rattle.sound_words.specs.Loops.{pass, stop}
use borrow.Author.Tests.{lt-ltb, le-ltb}
use Rattle.sound_tasks.specs.AwaiterLaws.{awaits_at, awaits_none}
use Rattle.sound_tasks.proofs.blocked.blocked_awaits.Goals as goal

pub returns-then-o-made : goal.returns-then-o-made
returns-then-o-made c = awaits_at _ _ _ c.state_at.ensures c.in-Blocked.is (pass (sym (lt-ltb _ _ c.if-o-made.true)) (rw (← c.awaiter_at.ensures) c.is_task.ensures))

pub returns-else-o-made : goal.returns-else-o-made
returns-else-o-made c = awaits_at _ _ _ c.state_at.ensures c.in-Blocked.is (le-ltb _ _ c.if-o-made.false ∙ stop _ (sym (le-ltb _ _ c.if-o-made.false)))

pub returns-in_default : goal.returns-in_default
returns-in_default c = awaits_none _ _ _ c.state_at.ensures c.in_default.not-Blocked
