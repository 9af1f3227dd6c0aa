-- Laws of the run: its table, what it answers, and worked cases.
pub mod TableLaws
pub mod ToolLaws
pub mod Cases
