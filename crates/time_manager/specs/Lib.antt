pub mod Own
pub mod Ranks
pub mod Watching
