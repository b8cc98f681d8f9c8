pub mod NoticeLaws
pub mod RiseLaws
pub mod SearchLaws
