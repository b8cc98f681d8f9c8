pub mod Each
pub mod Valid
