pub mod ChangeLemmas
pub mod NumberLemmas
pub mod KeptLemmas
pub mod SeenLemmas
pub mod InsideLemmas
pub mod WriterLemmas
pub mod RefusalLemmas
