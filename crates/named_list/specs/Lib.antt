pub mod Order
pub mod Places
pub mod Sought
pub mod Stamps
