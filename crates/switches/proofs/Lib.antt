-- Laws of stages, of a side's map, of the side that is written for one, and of a surplus of stages.
pub mod StageLaws
pub mod CellLaws
pub mod WrittenLaws
pub mod SurplusLaws
pub mod Cases
