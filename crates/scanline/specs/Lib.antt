pub mod Fetches
pub mod Tiles
pub mod Turns
pub mod Clock
pub mod Steps
pub mod Ranges
pub mod Kept
pub mod Edges
