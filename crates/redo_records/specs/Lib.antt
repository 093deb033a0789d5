pub mod Gives
pub mod Laws
pub mod Reading
pub mod Recovered
pub mod Spellable
pub mod Spelled
pub mod Spelling
