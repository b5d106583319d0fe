pub mod Calls
pub mod Run
pub mod Events
pub mod Told
pub mod Sentence
pub mod Machine
pub mod Promise
pub mod Cases
