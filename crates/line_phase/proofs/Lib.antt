pub mod FitLaws
pub mod LeadLaws
pub mod ListLaws
pub mod MovedLaws
pub mod NotifyLaws
pub mod RangeLaws
pub mod RegisterLaws
pub mod SendLaws
