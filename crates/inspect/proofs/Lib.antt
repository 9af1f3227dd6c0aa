-- Laws of the inspector.
pub mod TableLaws
pub mod ColumnLaws
pub mod Cases
