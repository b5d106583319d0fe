pub mod Groups
pub mod Chosen
pub mod Writes
pub mod Reads
pub mod PpuRegisters
