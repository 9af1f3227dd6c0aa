-- Laws over every series, and cases that are computed.
pub mod SeriesLaws
pub mod FreshLaws
pub mod CountedLaws
pub mod TurnLaws
pub mod AnsweredLaws
pub mod FamilyLaws
pub mod RightLaws
pub mod SeenLaws
pub mod ConservedLaws
pub mod Cases
