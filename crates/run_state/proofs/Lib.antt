pub mod Calls
pub mod Places
pub mod Promises
pub mod Putting
