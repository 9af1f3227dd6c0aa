-- A few things in order.
pub mod Few
