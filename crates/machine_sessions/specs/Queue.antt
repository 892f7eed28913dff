-- (i) of demand 3: the ready queue holds distinct tasks that are live and not blocked, by the words of the history (`queue_right` of Following).
pub mod Tracked
pub mod TrackedEvents
pub mod Following
