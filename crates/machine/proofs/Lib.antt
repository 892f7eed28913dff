pub mod CasesHold
pub mod SoundCases
pub mod DemandThreeTest
pub mod HonestTest
pub mod DemandThreeCases
pub mod DemandTwoCases
pub mod CancelCountsTest
