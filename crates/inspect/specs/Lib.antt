-- What the inspector promises.
pub mod Tool
pub mod Inside
