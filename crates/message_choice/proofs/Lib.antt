pub mod Asked
pub mod Claiming
pub mod Holding
pub mod Navigating
pub mod Nearing
pub mod Sounding
pub mod Walking
