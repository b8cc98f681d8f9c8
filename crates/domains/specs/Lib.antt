pub mod ById
pub mod Domain
pub mod Lends
pub mod Place
pub mod World
