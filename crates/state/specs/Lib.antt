-- The clock of a run, and the state of the run of a sheet.
pub mod Clocks
pub mod States
pub mod Decisions
pub mod Table
