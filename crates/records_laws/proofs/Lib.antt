pub mod UnusedRows
pub mod LaidRows
pub mod RecordsAreSession
