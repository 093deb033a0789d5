pub mod Counting
pub mod Workers
pub mod Entries
pub mod Passes
pub mod Rule
pub mod Steps
pub mod Views
pub mod Written
