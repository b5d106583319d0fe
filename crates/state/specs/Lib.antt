pub mod Lengths
pub mod Ranges
pub mod Gate
pub mod With
pub mod Puts
