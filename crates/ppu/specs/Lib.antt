pub mod Served
pub mod Cache
pub mod Fetches
