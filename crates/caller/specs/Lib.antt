-- The run as a tool over a series of calls, and a caller who makes them.
pub mod AsTool
pub mod Caller
