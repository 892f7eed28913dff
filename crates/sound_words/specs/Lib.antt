pub mod Words
pub mod PartLaws
pub mod Loops
pub mod Called
