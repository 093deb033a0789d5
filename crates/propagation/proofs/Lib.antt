pub mod Arrivals
pub mod Delays
