pub mod ClosedLaws
pub mod FreshPasses
pub mod PlanLaws
