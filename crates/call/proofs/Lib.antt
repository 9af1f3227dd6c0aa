-- Laws of a call: the places it writes and reads, what comes of it, and what is answered.
pub mod PlaceLaws
pub mod CallLaws
pub mod ToolLaws
