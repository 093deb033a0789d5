pub mod Bytes
pub mod Compaction
pub mod Loggable
pub mod Logging
pub mod Mounting
pub mod Reading
pub mod Renewing
