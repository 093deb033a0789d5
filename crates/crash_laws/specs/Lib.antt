pub mod Crash
pub mod CrashLaws
pub use Rattle.history_laws.specs.LegalFates
