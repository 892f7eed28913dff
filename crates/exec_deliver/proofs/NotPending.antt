-- What is no external, or a settled one, is no pending external: case by case.
use Rattle.std.specs.Prelude.{◌≡◌}
use Rattle.std.proofs.Common.{refl}
use Rattle.std.proofs.Math.Option.{none}
use Rattle.asyncio.specs.Options.{OptionValue}
use Rattle.asyncio.specs.declared.Awaiter.{Awaiter}
use Rattle.asyncio.specs.declared.CallId.{CallId}
use Rattle.asyncio.specs.declared.ExternalFutureState.{ExternalFutureState}
use Rattle.asyncio.specs.declared.Object.{Object}
use Rattle.machine.specs.Scheduler.{as_pending}

pub no_external : (o : Object) {x : Object} → x ≡ o → ((c : CallId) (s : ExternalFutureState) → x ≡ Object.ExternalFuture c s → ⊥) → none ≡ as_pending o
unfolding as_pending
no_external Object.Unmade e h = refl
no_external (Object.Coroutine f y) e h = refl
no_external (Object.ExternalFuture c s) e h = absurd (h c s e)
no_external (Object.GatherFuture i n s) e h = refl

pub external_settled : {o x : Object} → x ≡ o → (c : CallId) (s : ExternalFutureState) → x ≡ Object.ExternalFuture c s
    → ((a : Awaiter) (r : OptionValue) → s ≡ ExternalFutureState.Pending a r → ⊥) → none ≡ as_pending o
unfolding as_pending
external_settled e c (ExternalFutureState.Pending a r) f h = absurd (h a r refl)
external_settled e c (ExternalFutureState.Resolved v) f h = rw (← e, f)
external_settled e c (ExternalFutureState.Failed v) f h = rw (← e, f)
