pub mod SameLaws
pub mod AlongLaws
pub mod WorkedLaws
