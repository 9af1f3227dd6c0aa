-- The four parts of an order.
pub mod Parts
