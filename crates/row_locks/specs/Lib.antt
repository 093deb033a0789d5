pub mod Changes
pub mod Entries
pub mod Groups
pub mod Hashing
pub mod Slots
