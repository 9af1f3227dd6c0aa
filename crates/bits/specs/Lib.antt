-- Numbers as rows of bits: bit 0 is the lowest.
pub mod Image
pub mod Parity
pub mod Word
pub mod Padded
pub mod Decisions
