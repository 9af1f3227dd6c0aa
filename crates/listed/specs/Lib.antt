-- The text that is listed for an order.
pub mod Listing
pub mod Tool
pub mod Inside
