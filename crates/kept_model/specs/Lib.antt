pub mod States
pub mod Sound
pub mod Said
pub mod Loading
pub mod Normal
pub mod Images
pub mod EmptyState
pub mod Laws
