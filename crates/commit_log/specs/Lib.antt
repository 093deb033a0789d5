pub mod Compacting
pub mod Logged
pub mod LogLaws
pub mod Mounting
pub mod Recovery
pub use Rattle.checkpoint.specs.Answer as CompactAnswer
pub use Rattle.checkpoint.specs.declared.compacting.CompactFault
pub use Rattle.checkpoint_commit.specs.Anew
pub use Rattle.database_recovery.specs.Sound
