pub mod NumberLaws
pub mod WordLaws
pub mod ScheduleLaws
pub mod ReportLaws
