pub mod Keeps
pub mod Peers
pub mod Acts
pub mod Asks
pub mod Changes
pub mod Commands
pub mod Submits
pub mod Ids
