-- Rows that a scan kept, told from its masks.
pub mod Listed
