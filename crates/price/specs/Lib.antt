-- What a sheet costs.
pub mod Price
pub mod Inside
