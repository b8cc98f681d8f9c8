pub mod Schedule
pub mod Numbers
pub mod Words
