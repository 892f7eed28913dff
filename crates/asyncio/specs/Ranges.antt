-- Which values fit their words: each number within its range.
use Rattle.std.specs.Prelude.{ℕ, ◌+◌, ◌≤◌, ◌<◌}
use Rattle.asyncio.specs.Limits.{task_limit, object_limit, place_limit, item_limit, call_limit, u32_limit}
use Rattle.asyncio.specs.declared.Value.{Value}
use Rattle.asyncio.specs.Options.{OptionValue}
use Rattle.std.specs.Prelude.{None, Some}
use Rattle.asyncio.specs.declared.Error.{Error}
use Rattle.asyncio.specs.declared.Awaiter.{Awaiter}
use Rattle.asyncio.specs.declared.ExternalFutureState.{ExternalFutureState}
use Rattle.asyncio.specs.declared.GatherState.{GatherState}
use Rattle.asyncio.specs.declared.Object.{Object}
use Rattle.asyncio.specs.declared.Place.{Place}
use Rattle.asyncio.specs.declared.TaskState.{TaskState}
use Rattle.asyncio.specs.declared.Task.{Task}
use Rattle.asyncio.specs.declared.Moment.{Moment}
use Rattle.asyncio.specs.declared.Header.{Header}

abbrev pub ValueFits : Value → Type 0
ValueFits (Value.Plain n) = Unit {0}
ValueFits (Value.List h) = h.0 < object_limit

abbrev pub OptionFits : OptionValue → Type 0
OptionFits None = Unit {0}
OptionFits (Some v) = ValueFits v

abbrev pub ErrorFits : Error → Type 0
ErrorFits (Error.Host n) = n < u32_limit
ErrorFits (Error.Script n) = n < u32_limit
ErrorFits Error.CoroutineReuse = Unit {0}
ErrorFits Error.FutureReuse = Unit {0}
ErrorFits Error.GatherReuse = Unit {0}
ErrorFits Error.NotFound = Unit {0}
ErrorFits Error.ModuleFile = Unit {0}

abbrev pub AwaiterFits : Awaiter → Type 0
AwaiterFits Awaiter.Nobody = Unit {0}
AwaiterFits (Awaiter.Task t) = t.0 < task_limit
AwaiterFits (Awaiter.GatherSlot g o) = (g.0 < object_limit) × (o.0 < object_limit)

abbrev pub ExternalFits : ExternalFutureState → Type 0
ExternalFits (ExternalFutureState.Pending w x) = AwaiterFits w × OptionFits x
ExternalFits (ExternalFutureState.Resolved v) = ValueFits v
ExternalFits (ExternalFutureState.Failed e) = ErrorFits e

abbrev pub GatherFits : GatherState → Type 0
GatherFits GatherState.Pending = Unit {0}
GatherFits (GatherState.Awaited w m) = AwaiterFits w × (m < u32_limit)
GatherFits GatherState.Completed = Unit {0}
GatherFits (GatherState.Failed e) = ErrorFits e

-- a gather has at most 32 places, and they lie within the 512
pub record PlacesFit (first count : ℕ) : Type 0 where
  pub within : first + count ≤ place_limit
  pub at_most : count ≤ item_limit

abbrev pub ObjectFits : Object → Type 0
ObjectFits Object.Unmade = Unit {0}
ObjectFits (Object.Coroutine f s) = f < u32_limit
ObjectFits (Object.ExternalFuture c s) = (c.0 < u32_limit) × ExternalFits s
ObjectFits (Object.GatherFuture i n s) = PlacesFit i n × GatherFits s

pub record PlaceFits (p : Place) : Type 0 where
  pub item_fits : p.item.0 < object_limit
  pub result_fits : OptionFits p.result

abbrev pub StateFits : TaskState → Type 0
StateFits TaskState.Absent = Unit {0}
StateFits TaskState.Unstarted = Unit {0}
StateFits TaskState.Running = Unit {0}
StateFits (TaskState.Woken v) = ValueFits v
StateFits (TaskState.Raised e) = ErrorFits e
StateFits (TaskState.Blocked h) = h.0 < object_limit

pub record TaskFits (t : Task) : Type 0 where
  pub state_fits : StateFits t.state
  pub awaiter_fits : AwaiterFits t.awaiter
  pub coroutine_fits : t.coroutine.0 < object_limit

abbrev pub MomentFits : Moment → Type 0
MomentFits (Moment.Running t) = t.0 < task_limit
MomentFits Moment.Waiting = Unit {0}
MomentFits Moment.Ended = Unit {0}

-- a count takes one value more than the numbers that it counts
pub record HeaderFits (h : Header) : Type 0 where
  pub made_fits : h.made ≤ object_limit
  pub used_fits : h.used ≤ place_limit
  pub calls_fit : h.calls ≤ call_limit
  pub next_fits : h.next ≤ task_limit
  pub moment_fits : MomentFits h.moment
