pub mod Groups
pub mod Places
pub mod Stamps
pub mod Walks
