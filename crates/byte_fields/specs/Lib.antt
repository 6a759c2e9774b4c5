pub mod Fields
pub mod FieldsLaws
pub mod Section
