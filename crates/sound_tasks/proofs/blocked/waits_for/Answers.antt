use Rattle.sound_tasks.specs.AwaiterLaws.{idles}
use Rattle.sound_tasks.proofs.blocked.waits_for.Goals as goal

pub returns-in_default : goal.returns-in_default
returns-in_default c = idles _ _ c.in_default.not-Absent c.in_default.not-Blocked
