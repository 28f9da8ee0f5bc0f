mod WholeLemmas
mod WalkLemmas
pub mod SentLemmas
mod SetLemmas
mod IndexedLemmas
pub mod OwnLemmas
