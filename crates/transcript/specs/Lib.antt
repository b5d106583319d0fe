pub mod Bytes
pub mod Printed
pub mod Cartridge
pub mod Lines
