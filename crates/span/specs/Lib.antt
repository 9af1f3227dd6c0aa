-- Sums, independence, rank and the scan, for lists of numbers of any width and length.
pub mod Maps
pub mod Sums
pub mod Decisions
pub mod Scan
pub mod First
pub mod Rows
pub mod Held
pub mod Tools
