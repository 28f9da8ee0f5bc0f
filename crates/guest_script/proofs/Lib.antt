pub mod LineLemmas
pub mod FieldLemmas
pub mod DraftLemmas
pub mod SoundLemmas
mod SearchLemmas
pub mod MadeLemmas
pub mod ByteLemmas
pub mod ReadLemmas
