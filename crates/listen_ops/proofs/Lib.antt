pub mod Listens
pub mod Served
