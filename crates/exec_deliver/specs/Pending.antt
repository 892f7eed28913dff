-- A pending external, as the machine's record.
use Rattle.std.specs.Prelude.{None, Some}
use Rattle.std.proofs.Math.Option.{Option, none, some}
use Rattle.std.specs.Prelude as rust
use Rattle.machine.specs.Scheduler as scheduler
use Rattle.exec_deliver.specs.declared.pending.PendingExternal.{PendingExternal}

-- one, or none
abbrev pub OptionPending : Type 0
OptionPending = rust.Option PendingExternal

-- as the code has it
abbrev pub pending_of : PendingExternal → scheduler.PendingExternal
pending_of p = record { call = p.call; awaiter = p.awaiter; stored = p.stored }

-- one, or none
abbrev pub option_pending : OptionPending → Option scheduler.PendingExternal
option_pending None = none
option_pending (Some p) = some (pending_of p)
