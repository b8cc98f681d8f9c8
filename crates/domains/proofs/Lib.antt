pub mod PlaceLaws
pub mod WorldLaws
