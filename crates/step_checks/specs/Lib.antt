pub mod Checked
pub mod CheckedLaws
pub mod TestLaws
pub mod StepLaws
pub mod Lent
pub mod LentLaws
