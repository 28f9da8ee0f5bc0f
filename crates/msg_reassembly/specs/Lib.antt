pub mod Cuts
pub mod Inboxes
