mod RingLemmas
mod KeepLemmas
mod ConnLemmas
pub mod SmallLemmas
