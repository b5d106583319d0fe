pub mod Law
pub mod Several
pub mod All
