pub mod WordLemmas
pub mod WorkLemmas
pub mod MoveLemmas
pub mod EndLemmas
