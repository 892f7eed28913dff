pub mod ListLaws
pub mod KeptLaws
