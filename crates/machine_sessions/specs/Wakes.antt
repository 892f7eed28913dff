-- Which tasks a batch of results wakes, and in which order they stand in the ready queue (document 02, No. 7): of a sound store `wakes_ascend` (Reached), of every
-- list of events `sessions_wake_in_order` (Sessions).
pub mod Reached
pub mod Sessions
