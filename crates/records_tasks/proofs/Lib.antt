pub mod TaskRecordLaws
pub mod TaskRowsLaws
pub mod UnfitLaws
