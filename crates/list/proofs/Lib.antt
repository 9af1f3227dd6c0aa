-- Laws of listings, and cases that are computed.
pub mod ListLaws
pub mod ToolLaws
pub mod Cases
