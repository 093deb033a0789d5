pub mod Calls
pub mod Doings
pub mod Early
pub mod Numbers
pub mod Pends
pub mod Sendings
pub mod Sizes
pub mod Waits
