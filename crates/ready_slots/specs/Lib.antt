pub mod Edits
pub mod Indexed
pub mod Putting
pub mod Shown
pub mod Slot
pub mod Taking
