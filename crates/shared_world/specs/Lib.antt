pub mod Closed
pub mod Plans
pub mod Possible
pub mod Whole
