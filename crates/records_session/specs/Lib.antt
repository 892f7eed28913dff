pub mod Records
pub mod RecordsContract
