-- The third demand holds.
pub mod DemandLaws
