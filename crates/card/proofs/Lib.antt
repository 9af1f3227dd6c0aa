-- Laws of cards, and cases that are computed.
pub mod CardLaws
pub mod Cases
