-- Laws of the run as a tool, and of a caller.
pub mod ToolLaws
pub mod CallerLaws
