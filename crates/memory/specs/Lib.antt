-- The memory, and a call that is served over any cells.
pub mod Memory
pub mod Decisions
pub mod Serving
