pub mod Numbers
pub mod Records
pub mod Examples
pub mod Refusals
pub mod Promise
pub mod Cartridge
