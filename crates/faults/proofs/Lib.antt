-- Laws of the marks, and of two ports that want one bank.
pub mod MarkLaws
pub mod FaultLaws
