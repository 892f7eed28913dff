-- What happened is what events and answers say, in every session: `honest_sessions`.
pub mod Given
pub mod GivenCycle
pub mod GivenCommit
pub mod GivenAwait
pub mod GivenEvents
pub mod GivenSessions
pub mod GivenHonest
pub mod HonestWalk
pub mod Spawned
pub mod HonestLog
pub mod HonestIdle
pub mod HonestEnds
pub mod HonestEvents
pub mod HonestApart
pub mod HonestAwait
pub mod HonestMakes
pub mod HonestHolds
pub mod HonestEntries
pub mod HonestResume
pub mod HonestCommit
use Rattle.std.specs.Prelude.{◌≡◌, List, ℕ}
use Rattle.std.proofs.Common.{ap, sym, ◌∙◌}
use Rattle.std.proofs.Math.Option.{Option, some}
use Rattle.machine.specs.Events.{How, start, value, raises, inline, Control, runs}
use Rattle.machine.specs.Machine.{Answer}
use Rattle.machine.specs.History.{tells}
use Rattle.machine.specs.Sessions.{Sent, session, send, entry_of, lent_any, InRange, AllSentInRange}
use Rattle.machine.specs.DemandThree.{look}
use Rattle.machine.specs.Honest.{ToldHonest, HonestSessions}
use Rattle.machine_sessions.specs.Honest.GivenHonest.{session-blocked, told-value, told-raises}
use Rattle.machine_sessions.specs.Honest.HonestHolds.{IsHanded}
use Rattle.machine_sessions.specs.Honest.HonestEntries.{sent_entry, honest_sessions_from}
use Rattle.machine_sessions.specs.Honest.HonestResume.{resume-starts-none}

-- what a task is handed: a value or an error
told : (es : List Sent) (e : Sent) → AllSentInRange es → InRange e.event → (t : ℕ) (a : How) → (tells (sent_entry es e).answer).control ≡ some (runs t a) → IsHanded a
    → ToldHonest (session es).history (sent_entry es e) (look (send (session es) e).store) t a
unfolding entry_of
told es e i j t (start c f) q h = absurd h
told es e i j t (value v) q h = told-value es e i j t v q
told es e i j t (raises a) q h = told-raises es e i j t a q
told es e i j t (inline c) q h = absurd h

-- For every list of events and one more, refused ones included, with any call lists.
pub honest_sessions : HonestSessions
unfolding entry_of
honest_sessions = honest_sessions_from told session-blocked (λ es e i j t c f q. resume-starts-none es e i j t c f q)
