pub mod Answers
pub mod Pipes
