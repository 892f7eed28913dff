-- No panic of the Rust is reached (docs/PANICS.md): the theorems to read stand below; what each file proves, its first line says.
pub mod Panic
pub mod PanickingDelivery
pub mod NoPanicLaws
pub mod NoPanicWoken
pub mod PanickingCommit
pub mod PanickingDeliveryLaws
pub mod PanickingEvents
pub mod PanickingCommitLaws
pub mod PanickingEventsLaws
pub mod PanickingMachine
pub mod PanickingMachineLaws
pub mod NoPanicPlaces
use Rattle.std.specs.Prelude.{◌≡◌, List, length}
use Rattle.asyncio.specs.Limits.{task_limit}
use Rattle.machine.specs.Store.{Store, fresh}
use Rattle.machine.specs.Machine.{Event, step, after, answers}
use Rattle.machine_laws.specs.Views.{Sized}
use Rattle.machine.specs.Sessions.{InRange}
use Rattle.machine_theorems.specs.Soundness.Sessions.{AllInRange}
use Rattle.machine_theorems.specs.Panics.Panic.{Panics}
use Rattle.machine_theorems.specs.Panics.PanickingMachine.{step_or_panic, after_or_panic, answers_or_panic}
use Rattle.machine_theorems.specs.Panics.PanickingMachineLaws.{step_safe, session_safe}

-- Whatever a panic does, the step with the Rust's panics put in is the machine's step, on every store of the right lengths.
pub events_reach_no_panic : (panic : Panics) (s : Store) (e : Event) → Sized s → length s.queue.ids ≡ task_limit → InRange e → step_or_panic panic s e ≡ step s e
events_reach_no_panic panic s e z ids i = step_safe panic s e z ids i

-- And so are whole sessions, their stores and their answers.
pub sessions_reach_no_panic : (panic : Panics) (es : List Event) → AllInRange es
    → (after_or_panic panic fresh es ≡ after fresh es) × (answers_or_panic panic fresh es ≡ answers fresh es)
sessions_reach_no_panic panic es i = session_safe panic es i
