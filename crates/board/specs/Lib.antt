pub mod Outcomes
pub mod Loads
pub mod CpuSide
pub mod StateCalls
