pub mod Widths
pub mod Readings
pub mod CallCount
pub mod ReadingLaws
pub mod WidthLaws
pub mod Sessions
