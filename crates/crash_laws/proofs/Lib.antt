pub mod Splitting
pub mod Standing
pub mod Surviving
