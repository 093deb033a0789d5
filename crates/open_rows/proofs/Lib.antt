pub mod FindLemmas
pub mod NamedLemmas
pub mod SuffixLemmas
