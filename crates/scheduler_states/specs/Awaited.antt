-- An awaited gather, as the machine's record.
use Rattle.std.specs.Prelude.{ℕ, None, Some}
use Rattle.std.proofs.Math.Option.{Option, none, some}
use Rattle.std.specs.Prelude as rust
use Rattle.asyncio.specs.declared.Awaiter.{Awaiter}
use Rattle.machine.specs.Scheduler as scheduler
use Rattle.scheduler_states.specs.declared.awaited.AwaitedGather.{AwaitedGather}

-- one, or none
abbrev pub OptionAwaited : Type 0
OptionAwaited = rust.Option AwaitedGather

-- by its parts
abbrev pub awaited_gather : ℕ → ℕ → Awaiter → ℕ → scheduler.AwaitedGather
awaited_gather f n a m = record { first = f; count = n; awaiter = a; open_places = m }

-- as the code has it
abbrev pub awaited_gather_of : AwaitedGather → scheduler.AwaitedGather
awaited_gather_of w = awaited_gather w.first w.count w.awaiter w.open_places

-- one, or none
abbrev pub option_awaited : OptionAwaited → Option scheduler.AwaitedGather
option_awaited None = none
option_awaited (Some w) = some (awaited_gather_of w)
