pub mod Ending
pub mod Search
