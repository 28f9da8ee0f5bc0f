pub mod Lines
pub mod Rings
pub mod Fronts
pub mod Worlds
pub mod Scripts
pub mod Transcripts
pub mod Served
