-- Series of calls and frames, the run over them, and when it is right.
pub mod Series
pub mod Seen
pub mod Run
pub mod Right
pub mod Answered
