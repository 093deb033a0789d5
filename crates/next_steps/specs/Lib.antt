pub mod Calling
pub mod Sendings
pub mod Sound
pub mod Stepping
