pub mod Computed
pub mod Replaying
