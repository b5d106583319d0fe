pub mod Edges
pub mod WorkedReplay
