pub mod Chunks
pub mod Map
pub mod Marks
pub mod Places
