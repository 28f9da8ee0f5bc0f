mod HexLemmas
mod DecimalLemmas
pub mod PairLemmas
mod QueueLemmas
