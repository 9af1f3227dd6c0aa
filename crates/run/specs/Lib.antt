-- The run as a tool.
pub mod Tool
pub mod Sound
