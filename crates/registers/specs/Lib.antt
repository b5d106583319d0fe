pub mod Registers
pub mod Mirrorings
