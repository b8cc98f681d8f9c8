pub mod FieldLaws
pub mod StructureLaws
