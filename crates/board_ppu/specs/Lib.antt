pub mod Peeks
pub mod Fetch
pub mod Counted
pub mod Promise
