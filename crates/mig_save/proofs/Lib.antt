pub mod Rows
pub mod MadeWatches
pub mod Numbers
pub mod ToldMarks
pub mod SoundParts
pub mod RecordSizes
pub mod Phases
