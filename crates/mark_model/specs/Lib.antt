pub mod Marks
pub mod Open
pub mod Stores
pub mod Laws
