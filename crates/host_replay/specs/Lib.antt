pub mod Replays
pub mod Promise
