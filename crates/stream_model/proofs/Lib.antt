pub mod FieldLemmas
pub mod ReadingSteps
pub mod SpelledIsRead
pub mod HeaderLemmas
pub mod ReadIsSpelled
pub mod CanonicalIsStream
pub mod FirstFault
pub mod PlaceLemmas
