pub mod Rows
pub mod RowLaws
pub mod Tables
pub mod Slices
pub mod TableLaws
pub mod PartLaws
pub mod Canonical
pub mod CanonicalLaws
