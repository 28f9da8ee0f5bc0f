mod CutLemmas
mod FrontLemmas
pub mod IntakeLemmas
