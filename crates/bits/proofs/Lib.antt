pub mod XorLaws
pub mod ParityLaws
pub mod ImageLaws
pub mod PaddedLaws
pub mod FillLaws
pub mod NextLaws
pub mod WordLaws
pub mod Cases
