pub mod Fill
pub mod Counters
