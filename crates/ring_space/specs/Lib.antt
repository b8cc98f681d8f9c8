pub mod Copies
pub mod RowSlots
