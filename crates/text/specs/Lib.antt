pub mod Sheet
pub mod Digits
pub mod Lines
pub mod Promise
pub mod Examples
