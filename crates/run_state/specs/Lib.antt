pub mod CallEffects
pub mod Commits
pub mod Entries
pub mod Promises
pub mod Reserved
pub mod Sendings
pub use Rattle.propagation.specs.Outcomes
