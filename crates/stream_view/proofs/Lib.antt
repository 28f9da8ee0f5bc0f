pub mod ShowLemmas
pub mod ViewLemmas
pub mod DigitLemmas
