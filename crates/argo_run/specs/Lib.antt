pub mod Words
pub mod Due
pub mod Ends
pub mod Numbers
pub mod Outside
pub mod Serve
pub mod Splits
