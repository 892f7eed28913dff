pub mod NotAwaited
