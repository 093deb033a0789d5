pub mod Bound
pub mod Few
pub mod Kept
