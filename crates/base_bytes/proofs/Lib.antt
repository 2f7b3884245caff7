pub mod FieldLaws
pub mod Filling
