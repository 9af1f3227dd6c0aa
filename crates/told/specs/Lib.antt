-- What C is told of an answer.
pub mod Told
pub mod Places
