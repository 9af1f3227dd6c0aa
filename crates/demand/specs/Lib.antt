-- The third demand.
pub mod Demand
