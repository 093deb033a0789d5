pub mod Changing
pub mod Inserting
pub mod Leading
pub mod Putting
pub mod Slot
pub mod Standing
pub mod Taking
