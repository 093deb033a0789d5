pub mod Freeing
pub mod Meant
pub mod Numbers
