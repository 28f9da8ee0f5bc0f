pub mod StringLemmas
pub mod EntryLemmas
pub mod PathLemmas
pub mod AskedLemmas
mod PutLemmas
