pub mod FreePages
pub mod Memory
pub mod Offers
pub mod Starts
pub mod Sweeps
