pub mod Changing
pub mod Leaving
pub mod Marks
pub mod Results
pub mod ShownSessions
pub mod States
