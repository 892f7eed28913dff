pub mod FilledLaws
pub mod SlotLaws
pub mod Clauses
