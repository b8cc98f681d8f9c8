pub mod ActLaws
pub mod EndLaws
pub mod LeftLaws
pub mod NextLaws
pub mod NoticeLaws
pub mod NumberLaws
pub mod RingLaws
pub mod TouchLaws
