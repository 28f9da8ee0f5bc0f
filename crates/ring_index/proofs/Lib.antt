mod RingLemmas
pub mod PipeLemmas
