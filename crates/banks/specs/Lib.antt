pub mod Placed
pub mod Prg
pub mod Chr
pub mod Names
