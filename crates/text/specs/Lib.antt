-- Numbers as text.
pub mod Decimal
pub mod Number
pub mod Numbers
