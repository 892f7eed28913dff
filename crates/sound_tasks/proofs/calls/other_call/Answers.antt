use Rattle.sound_tasks.specs.CallLaws.{other_none, other_told}
use Rattle.sound_tasks.proofs.calls.other_call.Goals as goal

pub returns-in-Some : goal.returns-in-Some
returns-in-Some c = other_told _ _ _ c.pending_call.ensures c.in-Some.is c.ne.ensures

pub returns-in-None : goal.returns-in-None
returns-in-None c = other_none _ _ _ c.pending_call.ensures c.in-None.is
