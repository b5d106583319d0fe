pub mod Sides
pub mod Writes
