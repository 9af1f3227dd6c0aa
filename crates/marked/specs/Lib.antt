-- 01's marked cases.
pub mod Cases
