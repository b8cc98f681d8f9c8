pub mod AllocatedLaws
pub mod FlatLaws
pub mod Lending
pub mod PageLaws
pub mod RowLaws
pub mod SwapLaws
