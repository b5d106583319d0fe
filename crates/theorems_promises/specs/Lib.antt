pub mod Kept
pub mod Address
pub mod Refused
pub mod Loading
