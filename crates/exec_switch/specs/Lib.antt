pub mod Control
pub mod ControlLaws
pub mod CycleLaws
pub mod Refusal
pub mod Answer
pub mod LogLaws
