pub mod Catalog
pub mod Met
pub mod Repeats
