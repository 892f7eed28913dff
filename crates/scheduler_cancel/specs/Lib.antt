pub mod Cancel
pub mod TaskOfLaws
pub mod CancelLaws
