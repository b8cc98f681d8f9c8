pub mod YoungLaws
pub mod OutcomeLaws
pub mod SectionLaws
pub mod StepLaws
