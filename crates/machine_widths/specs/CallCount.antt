-- What the laws of proofs/CallCount.antt state.
use Rattle.std.specs.Prelude.{◌≡◌, ℕ}
use Rattle.machine.specs.Store.{Store, header}
use Rattle.machine_laws.specs.Views.{Sized}

-- k calls are handed out
pub record Calls (k : ℕ) (s : Store) : Type 0 where
  pub sized : Sized s
  pub count : (header s).calls ≡ k
