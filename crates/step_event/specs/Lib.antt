pub mod LentStep
pub mod EventOf
pub mod SoundStepLaws
