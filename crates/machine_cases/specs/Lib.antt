pub mod MoreCases
pub mod AllCases
pub mod LayoutCase
pub mod MoreSoundCases
pub mod ReuseCases
pub mod WakeCases
pub mod CountCases
