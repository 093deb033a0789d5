pub mod LowLemmas
pub mod MessageLemmas
pub mod PlaceLemmas
pub mod ReadyLemmas
pub mod StoredLemmas
pub mod TakenLemmas
