pub mod Examples
pub mod Laws
pub mod Programs
pub mod Rules
pub mod Runs
