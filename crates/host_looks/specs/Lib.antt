pub mod Looks
pub mod Pages
