-- What a call is lent.
pub mod Lent
