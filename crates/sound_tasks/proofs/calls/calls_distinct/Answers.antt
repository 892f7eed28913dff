use mathlib.Core.Path.{◌∙◌}
use Rattle.sound_tasks.specs.CallLaws.{distinct_ended, distinct_going}
use Rattle.sound_tasks.proofs.calls.calls_distinct.Goals as goal
use Rattle.sound_tasks.proofs.calls.calls_distinct.Goals.{in-Ended, in_default}

pub returns-then-matches : goal.returns-then-matches
returns-then-matches c = elim c.match-matches.branch [
  | in-Ended w ↦ w.matches-is ∙ distinct_ended _ _ w.in-Ended.is
  | in_default w ↦ cc
]

pub returns-else-matches : goal.returns-else-matches
returns-else-matches c = elim c.match-matches.branch [
  | in-Ended w ↦ cc
  | in_default w ↦ distinct_going _ _ w.in_default.not-Ended c.calls_new.ensures
]
