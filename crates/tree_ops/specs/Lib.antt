pub mod Outcomes
pub mod Answers
pub mod Ways
pub mod Rising
pub mod Fits
pub mod Walks
pub mod Places
