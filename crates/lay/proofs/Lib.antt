-- Laws of stages that are paired, and of sides that are laid out.
pub mod PairLaws
pub mod StagedLaws
