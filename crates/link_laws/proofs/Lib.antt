pub mod Commits
pub mod Confirming
pub mod Links
pub mod Nodes
pub mod Taking
pub mod Tracing
