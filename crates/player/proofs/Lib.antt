pub mod Steps
pub mod Arms
pub mod Fuel
pub mod Ways
