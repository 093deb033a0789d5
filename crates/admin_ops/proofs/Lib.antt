pub mod Meanings
pub mod Numbers
pub mod Walking
pub mod Working
