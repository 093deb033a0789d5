pub mod Recovering
pub mod Sound
pub use Rattle.message_store.specs.Stored
