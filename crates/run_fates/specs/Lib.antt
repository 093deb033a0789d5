pub mod DurableRun
pub mod RunFates
pub mod Throughout
