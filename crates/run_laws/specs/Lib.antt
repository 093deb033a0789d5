pub mod GroupedMarks
pub mod RunLaws
pub mod ValidRun
pub use Rattle.history_laws.specs.WorldLaws
