pub mod Changing
pub mod Least
pub mod Names
pub mod Putting
pub mod Searching
pub mod Turned
pub mod Walking
pub use Rattle.ready_slots.proofs.Inserting
