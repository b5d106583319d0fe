pub mod NumberLaws
pub mod FormLaws
pub mod RecordLaws
pub mod CartridgeLaws
pub mod WrongLaws
pub mod WrittenLaws
