-- Laws of what a scan kept, told from its masks.
pub mod KeptLaws
