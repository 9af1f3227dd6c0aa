-- Laws of the mover and of a frame that is moved and brought home, and cases that are computed.
pub mod ToolLaws
pub mod Cases
