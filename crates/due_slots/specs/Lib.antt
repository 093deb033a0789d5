pub mod Edits
pub mod Indexed
pub mod Laws
pub mod Named
pub mod Rows
