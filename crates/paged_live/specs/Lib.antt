pub mod Homes
pub mod Parts
pub mod Store
pub mod Closed
pub mod Ends
pub mod Registers
pub mod Finals
pub mod Forgets
