pub mod SoundMemoryKept
pub mod HostIsSession
