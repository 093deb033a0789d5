pub mod Distinctly
pub mod Finding
pub mod Firsts
pub mod Latest
pub mod Messages
pub mod Queues
pub mod Slots
