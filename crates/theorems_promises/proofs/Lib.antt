pub mod Mapped
pub mod Calls
pub mod Gates
pub mod Refusals
pub mod Fetching
pub mod Promised
pub mod Addresses
pub mod Loadings
