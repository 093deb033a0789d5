pub mod Apart
pub mod Found
pub mod Numbering
pub mod Sending
