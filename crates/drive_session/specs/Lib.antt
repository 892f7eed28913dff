pub mod Fold
pub mod FoldLaws
pub mod Session
pub mod LeftLaws
pub mod SessionLaws
pub mod ByteLaws
pub mod DemandThreeDriven
