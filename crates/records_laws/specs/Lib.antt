pub mod RecordsSessions
pub mod RecordsAreSession
pub mod UnusedRows
