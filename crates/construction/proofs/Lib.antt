-- Laws of the planned sheet, and cases that are computed.
pub mod WithLaws
pub mod ChoiceLaws
pub mod WiringLaws
pub mod PlannedLaws
pub mod Cases
