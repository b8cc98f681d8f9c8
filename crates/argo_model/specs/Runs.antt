pub mod Closed
pub mod Final
pub mod Report
pub mod Run
pub mod Script
