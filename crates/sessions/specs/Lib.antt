pub mod Effects
pub mod Numbers
pub mod Retries
pub mod Running
pub mod Stamped
pub mod States
