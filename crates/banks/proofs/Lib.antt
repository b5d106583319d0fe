pub mod PlacedLaws
pub mod BankLaws
pub mod WasLaws
