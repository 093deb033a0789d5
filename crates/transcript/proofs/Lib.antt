pub mod Counts
pub mod Joined
pub mod Objects
pub mod Pieces
pub mod Plain
pub mod Usual
pub mod Written
