pub mod Full
pub mod Same
pub mod Along
pub mod Worked
