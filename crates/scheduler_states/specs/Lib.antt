pub mod States
pub mod Awaited
pub mod AwaitedLaws
pub mod OpenPlaces
pub mod OpenPlaceLaws
