pub mod Shows
pub mod PlaceLaws
pub mod AnswerLaws
