pub mod Lists
pub mod Puts
pub mod Restoring
pub mod Spelling
pub mod Steps
pub mod Whole
