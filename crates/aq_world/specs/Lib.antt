pub mod Clocked
pub mod Going
pub mod Mounting
pub mod Turning
pub use Rattle.durable_state.specs.Anew
pub use Rattle.durable_state.specs.Brief
pub use Rattle.durable_state.specs.Compacting
pub use Rattle.durable_state.specs.Crash
pub use Rattle.durable_state.specs.Entries
pub use Rattle.durable_state.specs.Going as RunGoing
pub use Rattle.durable_state.specs.Held
pub use Rattle.durable_state.specs.LogCompacting
pub use Rattle.durable_state.specs.LogMounting
pub use Rattle.durable_state.specs.Logged
pub use Rattle.durable_state.specs.Recovery
pub use Rattle.durable_state.specs.Sound as RecoveredSound
pub use Rattle.durable_state.specs.Survival
pub use Rattle.durable_state.specs.declared.broken.Broken
pub use Rattle.durable_state.specs.declared.compacting.CompactCause
pub use Rattle.next_steps.specs.Sound
