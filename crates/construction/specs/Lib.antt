-- The sheet that is planned for an order, and what it is good for.
pub mod Planned
