-- Of gathers, what holds of any store: a task whose gather is awaited no more ends as any other. gather over whole sessions, against Python's documentation, is
-- the crate `machine_sessions` (Gather.antt there).
pub mod UnawaitedLaws
