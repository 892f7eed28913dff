pub mod Out
pub mod OutLaws
pub mod Text
pub mod TextLaws
pub mod WriteLaws
pub mod Writing
pub mod WritingLaws
