pub mod MarkLemmas
pub mod SameLemmas
