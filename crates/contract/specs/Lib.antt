pub mod Contract
pub mod Entries
