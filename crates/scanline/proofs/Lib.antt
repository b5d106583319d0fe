pub mod ClockLaws
pub mod StepLaws
pub mod FoldLaws
pub mod RangeLaws
