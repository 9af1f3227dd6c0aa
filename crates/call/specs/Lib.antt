-- One call over any two maps of words to cells, and what the tool answers.
pub mod Call
pub mod Tool
pub mod Inside
