-- When a sheet realises an order: none of 6 to 9 applies.
pub mod Agreement
pub mod Decisions
pub mod Realises
