pub mod Hosted
pub mod Promise
