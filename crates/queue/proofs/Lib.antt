pub mod QueueLaws
pub mod RemovalLaws
pub mod OrderLaws
