pub mod Brief
pub mod Compacting
pub mod Counted
pub mod Going
pub mod Held
pub mod Mounting
pub mod Queueing
pub mod Survival
pub mod Writing
pub use Rattle.commit_log.specs.Logged
pub use Rattle.commit_log.specs.Mounting as LogMounting
pub use Rattle.commit_log.specs.Recovery
pub use Rattle.commit_log.specs.Anew
pub use Rattle.commit_log.specs.Compacting as LogCompacting
pub use Rattle.commit_log.specs.Sound
pub use Rattle.commit_log.specs.declared.fault.LogFault
pub use Rattle.crash_laws.specs.Crash
pub use Rattle.run_state.specs.Entries
