pub mod CommitChanges
pub mod Each
