pub mod Addresses
pub mod ReadLaws
