pub mod BegunKeeps
pub mod BegunStarts
