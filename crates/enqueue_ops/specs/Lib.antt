pub mod Asked
pub mod Enqueued
