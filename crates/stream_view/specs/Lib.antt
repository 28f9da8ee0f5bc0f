pub mod Statuses
pub mod Shown
