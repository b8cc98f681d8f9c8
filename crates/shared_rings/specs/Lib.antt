pub mod Made
pub mod Registering
