pub mod Causes
pub mod Disk
pub mod Held
pub mod Kept
pub mod Left
pub mod Memory
pub mod Plan
