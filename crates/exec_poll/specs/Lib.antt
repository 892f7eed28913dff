pub mod Polls
pub mod ItemLaws
