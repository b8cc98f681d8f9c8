pub mod Ends
pub mod Receiving
pub mod Stage
