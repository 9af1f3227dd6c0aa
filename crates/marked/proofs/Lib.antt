-- 01's marked cases hold.
pub mod Marked
