pub mod Ends
pub mod Touches
