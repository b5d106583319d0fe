pub mod Numbers
pub mod Letters
pub mod Refused
pub mod Promise
