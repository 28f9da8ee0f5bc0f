pub mod Splitting
pub mod Ordered
pub mod Faults
pub mod Fronts
pub mod Cuts
pub mod Below
pub mod Home
