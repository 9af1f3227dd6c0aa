-- Laws of decimal numbers, of reading one and of rows of them, and cases that are computed.
pub mod DecimalLaws
pub mod ReadLaws
pub mod RowLaws
pub mod ToolLaws
pub mod Cases
