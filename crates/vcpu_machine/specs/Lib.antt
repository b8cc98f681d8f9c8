pub mod Going
pub mod Line
pub mod Looking
pub mod Steps
pub mod Vcpu
