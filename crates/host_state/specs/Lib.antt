pub mod Words
pub mod Fits
pub mod Put
pub mod Promise
pub mod Exported
