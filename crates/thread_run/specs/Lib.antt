pub mod Ends
pub mod Worker
pub mod Workers
