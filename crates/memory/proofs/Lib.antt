-- Laws of the memory, and of how many marks say filled; worked cases.
pub mod MemoryLaws
pub mod CountLaws
pub mod Cases
