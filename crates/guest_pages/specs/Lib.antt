pub mod Allocated
pub mod LendingPage
pub mod PageBytes
pub mod Pages
pub mod PrivateInside
pub mod RowInside
pub mod Rows
pub mod Swaps
