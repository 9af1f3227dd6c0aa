-- What the planner promises.
pub mod Tool
pub mod Inside
