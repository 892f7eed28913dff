pub mod Lines
pub mod Writes
pub mod LineLaws
pub mod Example
