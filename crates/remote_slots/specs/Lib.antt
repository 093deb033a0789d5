pub mod Edits
pub mod Few
pub mod Putting
pub mod Remote
pub mod Searched
pub use Rattle.ready_slots.specs.Edits as ReadyEdits
pub use Rattle.ready_slots.specs.Indexed
