pub mod Faults
pub mod Messages
pub mod Sink
pub mod Source
