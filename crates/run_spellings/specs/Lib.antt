pub mod Examples
pub mod SpellableRun
pub mod SpellingLaws
