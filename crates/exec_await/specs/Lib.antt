pub mod Awaits
pub mod AwaitLaws
