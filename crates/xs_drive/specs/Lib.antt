pub mod Statuses
pub mod Forms
pub mod Vaults
pub mod Ends
pub mod Starts
pub mod Play
pub mod Counts
pub mod Works
