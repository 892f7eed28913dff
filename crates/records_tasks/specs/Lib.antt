pub mod TaskRecord
pub mod TaskRows
