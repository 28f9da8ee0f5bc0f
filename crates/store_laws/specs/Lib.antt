pub mod Lawful
pub mod Numbers
pub mod Writers
pub mod Refusals
