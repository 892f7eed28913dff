pub mod CallCount
pub mod WidthLaws
pub mod Sessions
pub mod RowsInUse
pub mod ReadingLaws
pub mod LastNumber
pub mod Carried
pub mod WidthCases
