pub mod Following
pub mod Going
pub mod Growing
pub mod Lists
pub mod Stepping
pub mod Telling
