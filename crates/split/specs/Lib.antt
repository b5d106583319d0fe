pub mod Control
pub mod Region
pub mod Places
pub mod Promise
pub mod Examples
