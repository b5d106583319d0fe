pub mod SheetLaws
pub mod DigitLaws
pub mod LineLaws
