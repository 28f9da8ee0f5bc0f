pub mod Guests
pub mod Stands
pub mod Parts
pub mod Seats
pub mod Handovers
