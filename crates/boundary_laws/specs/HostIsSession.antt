-- What the laws of proofs/HostIsSession.antt state.
use Rattle.std.specs.Prelude.{◌≡◌, map}
use Rattle.machine.specs.Store.{forget}
use Rattle.machine.specs.History.{Entry}
use Rattle.machine.specs.Sessions.{Session, session}
use Rattle.boundary_numbers.specs.Numbers.{numbers_as}
use Rattle.boundary_laws.specs.HostSessions.{store_held, HostSession}

-- The host has the machine's session: the store but for the log, and the numbers of each answer.
pub record IsSession (x : HostSession) (y : Session) : Type 0 where
  pub store_same : store_held x.memory ≡ forget y.store
  pub told_same : x.told ≡ map (λ (e : Entry). numbers_as e.answer) y.history
