pub mod Calls
pub mod Sides
pub mod Turns
pub mod Seats
pub mod Rule
