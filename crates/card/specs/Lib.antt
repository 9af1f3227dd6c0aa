-- The order card.
pub mod Card
pub mod Inside
