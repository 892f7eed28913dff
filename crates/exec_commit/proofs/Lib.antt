pub mod NoGather
pub mod StackLaws
