pub mod Steps
pub mod UnreadLemmas
pub mod Answered
pub mod Written
