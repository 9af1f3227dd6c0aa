-- Laws of what a call is lent.
pub mod LentLaws
