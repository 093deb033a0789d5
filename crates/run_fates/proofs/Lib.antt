pub mod Arrivals
pub mod Ending
pub mod Keeping
pub mod Lasting
pub mod Leading
pub mod Making
pub mod Telling
pub mod Throughout
