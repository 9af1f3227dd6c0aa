-- What is promised of a side that was opened.
pub mod Opened
pub mod Inside
