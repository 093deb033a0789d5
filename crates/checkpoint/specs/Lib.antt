pub mod Answer
pub mod Compaction
