-- Lines of text, and how they are written.
pub mod Line
pub mod Written
