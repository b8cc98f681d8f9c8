pub mod AuditLaws
pub mod FirstLaws
pub mod StepLaws
