-- Laws of stages, places and the table of a sheet, of sheets that are laid out, and cases that are computed.
pub mod StageLaws
pub mod PlaceLaws
pub mod LayLaws
pub mod TableLaws
pub mod Cases
