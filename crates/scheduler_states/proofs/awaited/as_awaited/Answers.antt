use mathlib.Core.Path.{refl}
use Rattle.scheduler_states.specs.AwaitedLaws.{not-awaited, is_awaited}
use Rattle.scheduler_states.proofs.NotAwaited.{no_gather, gather_not_awaited}
use Rattle.scheduler_states.proofs.awaited.as_awaited.Goals as goal

pub returns-in_default : goal.returns-in_default
returns-in_default c = not-awaited c.args.objects.now c.args.g.0 c.load_object.ensures _ refl (no_gather c.load_object.result c.in_default.not-GatherFuture)

pub returns-in_default-state : goal.returns-in_default-state
returns-in_default-state c = not-awaited c.args.objects.now c.args.g.0 c.load_object.ensures _ c.in-GatherFuture.is (gather_not_awaited _ _ _ c.in_default-state.not-Awaited)

pub returns : goal.returns
returns c = is_awaited c.args.objects.now c.args.g.0 c.load_object.ensures _ _ _ _ c.in-GatherFuture.is c.in-Awaited.is
