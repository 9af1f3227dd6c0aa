pub mod TruthLaws
pub mod FirstLaws
pub mod AnswerLaws
pub mod FrameLaws
pub mod PartLaws
pub mod SearchLaws
pub mod Cases
