pub mod FillLaws
pub mod Delivered
pub mod StepLaws
