pub mod Watched
pub mod Owing
pub mod Index
