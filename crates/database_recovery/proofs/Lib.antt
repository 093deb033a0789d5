pub mod Disks
pub mod Each
pub mod Folding
pub mod Judging
pub mod Keeping
pub mod Leading
pub mod Spelled
