-- What is no gather, or no awaited one, is no awaited gather: case by case.
use Rattle.std.specs.Prelude.{◌≡◌, ℕ}
use Rattle.std.proofs.Common.{refl}
use Rattle.std.proofs.Math.Option.{none}
use Rattle.asyncio.specs.declared.Awaiter.{Awaiter}
use Rattle.asyncio.specs.declared.GatherState.{GatherState}
use Rattle.asyncio.specs.declared.Object.{Object}
use Rattle.machine.specs.Scheduler.{as_awaited}

pub no_gather : (o : Object) → ((i n : ℕ) (s : GatherState) → o ≡ Object.GatherFuture i n s → ⊥) → as_awaited o ≡ none
unfolding as_awaited
no_gather Object.Unmade h = refl
no_gather (Object.Coroutine f x) h = refl
no_gather (Object.ExternalFuture c x) h = refl
no_gather (Object.GatherFuture i n s) h = absurd (h i n s refl)

pub gather_not_awaited : (i n : ℕ) (s : GatherState) → ((a : Awaiter) (m : ℕ) → s ≡ GatherState.Awaited a m → ⊥) → as_awaited (Object.GatherFuture i n s) ≡ none
unfolding as_awaited
gather_not_awaited i n GatherState.Pending h = refl
gather_not_awaited i n (GatherState.Awaited a m) h = absurd (h a m refl)
gather_not_awaited i n GatherState.Completed h = refl
gather_not_awaited i n (GatherState.Failed e) h = refl
