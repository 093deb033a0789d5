pub mod Asking
pub mod Claimed
pub mod Offered
pub mod Searched
pub mod Sound
pub mod Wanted
pub use Rattle.ready_slots.specs.Indexed
