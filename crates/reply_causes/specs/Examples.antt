pub mod Controls
pub mod Memories
pub mod Notifies
pub mod Recvs
pub mod Registers
pub mod Sends
pub mod Words
