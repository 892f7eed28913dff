-- Soundness is kept ("A store is sound when"): the theorems to read stand below; what each file proves, its first line says.
pub mod ReadyTasks
pub mod PutObject
pub mod PutTask
pub mod Memory
pub mod Stores
pub mod SpawnTask
pub mod Deliver
pub mod Fill
pub mod Results
pub mod Cycle
pub mod Exits
pub mod Await
pub mod CommitSteps
pub mod CommitInv
pub mod CommitLoop
pub mod CommitItems
pub mod AwaitGather
pub mod Preserved
pub mod Sessions
pub mod NeverUnsound
pub mod RowFacts
pub mod FillLaws
use Rattle.std.specs.Prelude.{◌≡◌, List, T}
use Rattle.machine.specs.Store.{Store, fresh}
use Rattle.machine.specs.Machine.{Event, refusal, step, after}
use Rattle.machine.specs.Sound.{sound}
use Rattle.machine_theorems.specs.Soundness.Stores.{SoundStore}
use Rattle.machine.specs.Sessions.{InRange}
use Rattle.machine_theorems.specs.Soundness.Sessions.{AllInRange, step_sound_store, session-sound}
use Rattle.machine_theorems.specs.Soundness.NeverUnsound.{never_unsound}

-- Every event, refused or not, leaves a sound store sound. (InRange: a function's or an error's number has 32 bits, as the code's types have it.)
pub event_keeps_soundness : (s : Store) (e : Event) → SoundStore s → InRange e → SoundStore (step s e).store
event_keeps_soundness s e h i = step_sound_store s h e i

-- After any events from a fresh session on, the store is sound.
pub sessions_are_sound : (es : List Event) → AllInRange es → T (sound (after fresh es))
sessions_are_sound es i = session-sound es i

-- So no event of a session is refused with 2.
pub sessions_never_meet_2 : (es : List Event) (e : Event) → AllInRange es → refusal (after fresh es) e ≡ 2 → ⊥
sessions_never_meet_2 es e i r = never_unsound es e i r
