pub mod MessageLemmas
pub mod LawLemmas
