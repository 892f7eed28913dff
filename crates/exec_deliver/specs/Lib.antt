pub mod ClimbLaws
pub mod Pending
pub mod Futures
pub mod FutureLaws
pub mod Delivers
