pub mod Following
pub mod Keeping
pub mod Sole
pub mod Unnamed
