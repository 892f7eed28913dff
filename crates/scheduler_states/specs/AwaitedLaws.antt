-- The ways through as_awaited, and what is known of a gather that it found.
use Rattle.std.specs.Prelude.{◌≡◌, List, [], ℕ, Some}
use Rattle.std.proofs.Common.{sym}
use Rattle.std.proofs.Math.Option.{none, some}
use Rattle.asyncio.specs.Ranges.{PlacesFit}
use Rattle.asyncio.specs.declared.Awaiter.{Awaiter}
use Rattle.asyncio.specs.declared.GatherState.{GatherState}
use Rattle.asyncio.specs.declared.Object.{Object}
use Rattle.rows.specs.Tables.{object_at}
use Rattle.machine.specs.Store.{store_of, object}
use Rattle.machine.specs.Scheduler.{as_awaited}
use Rattle.machine_laws.specs.DeliveryLaws.{awaited-fits}
use Rattle.scheduler_states.specs.Awaited.{awaited_gather, awaited_gather_of, option_awaited}
use Rattle.scheduler_states.specs.declared.awaited.AwaitedGather.{AwaitedGather}
use Rattle.scheduler_states.specs.Awaited.{OptionAwaited}

module _ (os : List ℕ) (g : ℕ) {o : Object} (e : o ≡ object_at os g) where
  pub not-awaited : (x : Object) → o ≡ x → as_awaited x ≡ none → none ≡ as_awaited (object_at os g)
  not-awaited x f n = rw (← e, f, n)

  pub is_awaited : (i n m : ℕ) (a : Awaiter) {s : GatherState} → o ≡ Object.GatherFuture i n s → s ≡ GatherState.Awaited a m
      → some (awaited_gather i n a m) ≡ as_awaited (object_at os g)
  unfolding as_awaited
  is_awaited i n m a f k = rw (← e, f, k)

-- the places of an awaited gather that was read are in range
pub awaited_range : (os : List ℕ) (g : ℕ) (a : OptionAwaited) (w : AwaitedGather) → option_awaited a ≡ as_awaited (object_at os g) → a ≡ Some w
    → PlacesFit w.first w.count
unfolding object
awaited_range os g a w e f = (awaited-fits (store_of [] os [] (record { len = 0; ids = [] }) []) g (awaited_gather_of w) (sym (rw f at e))).0
