pub mod CopyLaws
pub mod RunLaws
