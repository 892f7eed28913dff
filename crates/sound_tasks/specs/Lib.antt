pub mod Marks
pub mod QueueLaws
pub mod CallLaws
pub mod OneTaskLaws
pub mod AwaiterLaws
