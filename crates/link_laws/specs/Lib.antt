pub mod Laws
pub mod Link
pub mod Node
