pub mod Closed
pub mod Domains
pub mod Homes
pub mod Rings
