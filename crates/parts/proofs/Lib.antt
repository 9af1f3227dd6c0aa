-- Laws of the parts of an order and of their rows, and cases that are computed.
pub mod PartLaws
pub mod RowLaws
pub mod Cases
