pub mod NumberLaws
pub mod Cases
