pub mod Views
pub mod Parts
pub mod Drafts
pub mod Printed
pub mod Made
pub mod Laws
