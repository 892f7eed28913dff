pub mod Soundness
pub mod Panics
pub mod Gather
pub mod Bounds
