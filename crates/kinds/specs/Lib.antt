-- The board's vocabulary: decisions, the sizes of an edition, the words of a frame, the refusals and their numbers, which of a tool's refusals is given, and how contracts say so.
pub mod Decided
pub mod Search
pub mod Edition
pub mod Frame
pub mod Lengths
pub mod Decisions
pub mod Refusal
pub mod First
pub mod Reasons
pub mod Answers
pub mod Sizes
