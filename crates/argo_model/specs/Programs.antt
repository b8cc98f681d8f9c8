pub mod Asks
pub mod Notify
pub mod Program
pub mod Recv
pub mod Register
pub mod Send
