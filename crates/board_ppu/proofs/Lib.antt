pub mod SpriteLaws
pub mod Made
