pub mod KeyLemmas
pub mod EntryLemmas
pub mod TableLemmas
pub mod PlaceLemmas
