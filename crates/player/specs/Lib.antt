pub mod Replay
pub mod Promise
