pub mod Tests
pub mod WordLaws
pub mod ByteLaws
pub mod WindowLaws
pub mod TableLaws
pub mod NamedLaws
