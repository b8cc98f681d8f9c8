pub mod Lines
pub mod Messages
pub mod Wrote
pub mod Examples
