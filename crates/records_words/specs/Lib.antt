pub mod RowsInUse
pub mod OnWords
