pub mod Steps
pub mod Stack
pub mod StepLaws
pub mod Frames
pub mod SettleLaws
pub mod TreeLaws
