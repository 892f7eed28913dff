pub mod Cases
pub mod Marks
