pub mod Taken
pub mod Prg
pub mod Chr
pub mod Names
pub mod ExRam
