pub mod SizeLaws
pub mod GateLaws
pub mod RangeLaws
