pub mod Ends
pub mod Iovs
pub mod Laws
pub mod Memory
pub mod Messages
pub mod OwnSlots
pub mod Puts
pub mod Talk
