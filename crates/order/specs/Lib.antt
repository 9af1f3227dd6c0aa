-- What an order is, when it is refused, and what the tools on it promise.
pub mod Order
pub mod Decisions
pub mod Table
pub mod Tools
pub mod Inside
