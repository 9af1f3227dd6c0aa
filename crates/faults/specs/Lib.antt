-- The marks of a memory, and when a call must not go on.
pub mod Marks
pub mod Faults
pub mod Decisions
pub mod Table
pub mod Inside
