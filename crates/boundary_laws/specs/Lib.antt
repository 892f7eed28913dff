pub mod HostSessions
pub mod HostIsSession
