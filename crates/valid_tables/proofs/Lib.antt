pub mod Keys
pub mod Lookups
pub mod Meeting
pub mod Pairs
pub mod Recipients
