pub mod Affecting
pub mod Meaning
pub mod Shown
