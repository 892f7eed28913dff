-- (iv) of demand 3, and what waits: an open place names an item that has come to nothing (`waiting-items`), and without an accepted cancel no answer is an
-- empty wait or stalled (`session-goes`), both of WaitingSessions.
pub mod TaskLog
pub mod Outcomes
pub mod TaskLogEvents
pub mod WaitingTasks
pub mod Effects
pub mod ResultsWalk
pub mod Room
pub mod Standing
pub mod StandingEvents
pub mod StandingAwait
pub mod NoStall
pub mod SourcedPlan
pub mod SourcedClimb
pub mod SourcedFill
pub mod SourcedCycle
pub mod SourcedEvents
pub mod SourcedCommitSteps
pub mod SourcedCommitItems
pub mod SourcedCommit
pub mod SourcedKept
pub mod Cancelled
pub mod GoesOn
pub mod Waiting
pub mod WaitingEvents
pub mod WaitingSessions
