-- The listing of an order card.
pub mod Tool
