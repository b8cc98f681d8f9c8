pub mod PickLaws
pub mod UniqueLaws
pub mod OpenLaws
