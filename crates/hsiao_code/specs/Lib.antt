pub mod Code
pub mod Columns
pub mod LinearLaws
pub mod ColumnLaws
pub mod ReadingLaws
pub mod Near
pub mod NearLaws
