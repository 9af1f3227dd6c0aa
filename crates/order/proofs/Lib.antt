-- Laws of orders, of frames in order, of the table of refusals and of the tools, and cases that are computed.
pub mod OrderLaws
pub mod MoveLaws
pub mod TableLaws
pub mod ToolLaws
pub mod Cases
