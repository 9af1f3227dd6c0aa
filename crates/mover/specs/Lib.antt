-- What the mover promises.
pub mod Tool
pub mod Inside
