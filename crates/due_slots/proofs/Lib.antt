pub mod Counting
pub mod Indexing
pub mod Naming
pub mod Stepping
pub mod Telling
