pub mod ChildAbove
pub mod Entries
pub mod Mapped
pub mod Renumbered
pub mod Shape
pub mod Stamped
