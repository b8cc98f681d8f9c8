pub mod Keyed
pub mod Own
