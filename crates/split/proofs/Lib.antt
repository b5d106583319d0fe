pub mod ControlLaws
pub mod RegionLaws
pub mod PlaceLaws
