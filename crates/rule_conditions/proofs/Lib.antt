pub mod Matching
pub mod NoFault
pub mod Together
