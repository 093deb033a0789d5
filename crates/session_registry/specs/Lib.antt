pub mod Locks
pub mod Sessions
