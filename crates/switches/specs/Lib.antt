-- Stages, the map of a side, the side that is written for a map, and a surplus of stages.
pub mod Stages
pub mod Cells
pub mod Written
pub mod Surplus
pub mod Decisions
