pub mod Laws
pub mod Handovers
