-- What leaves the ready queue (document 02, No. 8): a cancel's count, and the order of those that stay (`cancel-count` of Cancels; of whole sessions
-- `sessions_count_cancels` of Sessions), a task's end (`completion_leaves`, `failure_leaves` of Exits), the session's end (`cleanup-count` of Cleanup).
pub mod Keep
pub mod Left
pub mod Cancels
pub mod Sessions
pub mod Cleanup
pub mod Exits
