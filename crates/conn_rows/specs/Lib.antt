pub mod Queued
pub mod Sending
pub mod Rows
pub mod Receivers
