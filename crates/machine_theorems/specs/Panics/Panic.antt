-- What the Rust's panics do: anything at all. A theorem for every `Panics` says that none is reached.
use Rattle.std.specs.Prelude.{ℕ, List}
use Rattle.machine.specs.Store.{Store}
use Rattle.machine.specs.Delivery.{Delivery, Filled, Settled}
use Rattle.machine.specs.Commit.{Polled, Item, Stop, Committed}
use Rattle.machine.specs.Events.{Switched, Awaited}
use Rattle.machine.specs.Machine.{Step}

-- For each sort of result that the machine has where the Rust may panic: from the store there, or its places, and of a switch the task.
pub record Panics : Type 0 where
  pub delivery : Store → Delivery
  pub filled : List ℕ → Filled
  pub settled : Store → Settled
  pub store : Store → Store
  pub item : Store → Item
  pub stop : Store → Stop
  pub polled : Store → Polled
  pub committed : Store → Committed
  pub switch : Store → ℕ → Switched
  pub awaited : Store → Awaited
  pub step : Store → Step
