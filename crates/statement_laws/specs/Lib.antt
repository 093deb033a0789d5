pub mod DequeueLaws
pub mod EnqueueLaws
pub mod Examples
pub mod KeepingLaws
pub mod SessionLaws
pub mod Sessions
pub mod StandingLaws
