pub mod NotPending
