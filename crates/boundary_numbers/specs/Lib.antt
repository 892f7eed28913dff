pub mod Numbers
pub mod Code
