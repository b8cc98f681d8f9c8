pub mod Clean
pub mod Flat
pub mod Held
pub mod Offers
pub mod Puts
pub mod Restarts
